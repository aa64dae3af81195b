use Rattle.std.proofs.Common.{◌≡◌, ◌≤◌, ◌<◌, ◌+◌, ◌-◌, ◌^◌, ◌++◌, ◌∷◌, [], ℕ, List, length, take, drop, Some, None, Option, refl, sym, ap, subst, ◌∙◌, rules, arith, true, false, Bool}
use Rattle.publication_log.specs.Publications.{Placed, changes_bytes, next_place, AreChanges}
use Rattle.publication_log.proofs.changes.judge_changes.Given as goal

abbrev pub invariant-loop-rest : goal.invariant-loop-rest
invariant-loop-rest l = (cs : List Placed) × AreChanges 0 cs × (l.bytes ≡ changes_bytes cs ++ l.rest) × (l.low ≡ next_place 0 cs)

abbrev pub decreases-loop-rest : goal.decreases-loop-rest
decreases-loop-rest l = length l.rest
