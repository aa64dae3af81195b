use Rattle.std.proofs.Common.{◌≡◌, ℕ, List, length}
use Rattle.publication_log.specs.Publications.{Placed, changes_bytes, AreChanges}
use Rattle.log_replay.specs.Replays.{are_changes_of, count_after_all}
use Rattle.log_replay.proofs.ChangeLemmas.{HasChanges}
use Rattle.log_replay.proofs.judging.judge_changes.Given as goal

-- what is left decides, and counts
abbrev pub invariant-changes : goal.invariant-changes
invariant-changes l = (low : ℕ) (cs : List Placed) → AreChanges low cs → l.fn.changes.rest.now ≡ changes_bytes cs →
    (left : List Placed) × HasChanges l.left.rest.now left × (are_changes_of l.plan l.count cs ≡ are_changes_of l.plan l.after left)
    × (count_after_all l.count cs ≡ count_after_all l.after left)

abbrev pub decreases-changes : goal.decreases-changes
decreases-changes l = length l.left.rest.now
