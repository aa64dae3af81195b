use Rattle.std.proofs.Common.{subst, sym}
use Rattle.version_store.specs.Editions.{Records}
use Rattle.version_store.specs.Together.{ArePrepared}
use Rattle.version_store.proofs.Prepared.{prepared_on}
use Rattle.version_store.proofs.preparing.Preparations.step.Goals as goal

pub returns-clause-so_far : goal.returns-clause-so_far
returns-clause-so_far g c =
    let e : Records = c.args.layer.now in
    let begun = subst (ArePrepared e) (sym c.replace-begun.ensures.value) c.requires.so_far in
    let stepped = c.stepped-stepped.ensures in
    subst (ArePrepared e) (sym c.replace.ensures.after) (record {
      first = prepared_on e _ _ begun.first stepped.first;
      second = prepared_on e _ _ begun.second stepped.second;
      third = prepared_on e _ _ begun.third stepped.third;
      fourth = prepared_on e _ _ begun.fourth stepped.fourth;
    })
