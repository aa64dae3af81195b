use Rattle.std.proofs.Common.{◌∷◌, ◌++◌, [], List, length, sym, ap, ◌∙◌, arith}
use Rattle.publication_log.specs.Publications.{Published}
use Rattle.publication_log.proofs.Chains.{length_push}
use Rattle.publication_log.proofs.Onward.{reads_one, none_left, all_read}
use Rattle.publication_log.proofs.reading.Publications.count.Goals as goal

pub entries-preserved : goal.entries-preserved
entries-preserved c = (
  omega (arith, c.entries.invariant.0, c.in-Some.ensures.shorter),
  λ link version ps each e.
      let it = c.entries.invariant.1 link version ps each e in
      let f = c.in-Some.frame in
      let whole = c.in-Some.ensures.some in
      let one = reads_one link ps it.0 it.1 c.entries.rest.now f.body.now f.digest.now f.rest.now it.2 whole.0 whole.1 whole.2 c.in-Some.ensures.shorter in
      (it.0 ++ one.first ∷ [], one.others, one.more, omega (arith, length_push it.0 one.first, it.3)),
)

pub returns : goal.returns
returns c = λ link version ps each e.
    let it = c.entries.invariant.1 link version ps each e in
    let none = none_left link ps it.0 it.1 c.entries.rest.now it.2 c.in_default.ensures.none in
    sym it.3 ∙ ap (λ (x : List Published). length x) (sym (all_read link ps it.0 it.1 c.entries.rest.now it.2 none))
