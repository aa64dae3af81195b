use Rattle.std.proofs.Common.{◌≡◌, ◌≤◌, ◌<◌, ◌+◌, ◌-◌, ◌^◌, ◌++◌, ◌∷◌, [], ℕ, List, length, take, drop, Some, None, Option, refl, sym, ap, subst, ◌∙◌, rules, arith, true, false, Bool}
use Rattle.publication_log.specs.Publications.{Placed, changes_bytes}
use Rattle.publication_log.proofs.Placings.{one_placed}
use Rattle.publication_log.proofs.changes.Changes.split_first.Goals as goal

pub returns-clause-some : goal.returns-clause-some
returns-clause-some c = λ d cs is e.
    let it = c.in_ok-first.ensures.some in
    let first : Placed = record { place = c.in_ok-first.first.change.place; bytes = c.in_ok-first.first.change.bytes.now } in
    let same = one_placed first d c.in_ok-first.first.rest.now (changes_bytes cs) it.0 is (sym it.1 ∙ e) in
    (ap (λ (x : Placed). x.place) same.0, ap (λ (x : Placed). x.bytes) same.0, same.1)
