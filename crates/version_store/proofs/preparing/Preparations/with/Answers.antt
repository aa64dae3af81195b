use Rattle.version_store.proofs.preparing.Preparations.with.Goals as goal

pub returns : goal.returns
returns c e begun one =
    let later = c.put_in-first.ensures.left e one in
    let last = c.put_in-second.ensures.left e later in
    let left = c.put_in-third.ensures.left e last in
    record {
      first = c.put_in-first.ensures.place e begun.first one;
      second = c.put_in-second.ensures.place e begun.second later;
      third = c.put_in-third.ensures.place e begun.third last;
      fourth = c.put_in-fourth.ensures.place e begun.fourth left;
    }
