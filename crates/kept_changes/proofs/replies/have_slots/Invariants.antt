use Rattle.std.proofs.Common.{◌≡◌, ◌<◌, ℕ, true}
use Rattle.hint_changes.specs.Entries.{change_in}
use Rattle.client_core.proofs.Entries.{has_slots}
use Rattle.kept_changes.proofs.replies.have_slots.Given as goal

abbrev pub invariant-loop-k : goal.invariant-loop-k
invariant-loop-k l = (j : ℕ) → j < l.k → has_slots l.plan (change_in l.len l.entries j) ≡ true
