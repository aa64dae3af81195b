use Rattle.std.proofs.Common.{◌≡◌, ◌≤◌, ◌<◌, ◌+◌, ◌-◌, ◌^◌, ◌++◌, ◌∷◌, [], ℕ, List, length, take, drop, Some, None, Option, Ok, Err, Result, refl, sym, ap, subst, ◌∙◌, append_assoc, rules, arith, true, false, Bool}
use Rattle.publication_log.specs.Publications.{Placed, placed_bytes, changes_bytes}
use Rattle.publication_log.proofs.Placings.{changes_push, are_push, next_push}
use Rattle.publication_log.proofs.changes.judge_changes.Goals as goal

pub loop-rest-preserved : goal.loop-rest-preserved
loop-rest-preserved c =
    let old = c.loop-rest.invariant in
    let cs : List Placed = old.0 in
    let d : Placed = record { place = c.in-Some.first.change.place; bytes = c.in-Some.first.change.bytes.now } in
    let it = c.in-Some.ensures.some in
    let rest : List ℕ = c.in-Some.first.rest.now in (
      cs ++ d ∷ [],
      are_push 0 cs d old.1 it.0 (omega (arith, old.3, c.if-first-low.false)),
      old.2
          ∙ ap (λ (x : List ℕ). changes_bytes cs ++ x) it.1
          ∙ sym (append_assoc (changes_bytes cs) (placed_bytes d) rest)
          ∙ ap (λ (x : List ℕ). x ++ rest) (sym (changes_push cs d)),
      sym (next_push 0 cs d),
    )
