use Rattle.std.proofs.Common.{◌≡◌, ℕ, List, length}
use Rattle.publication_log.specs.Publications.{Placed, changes_bytes, AreChanges}
use Rattle.version_store.specs.Histories.{held_after}
use Rattle.log_replay.specs.Replays.{edits_and_appends}
use Rattle.log_replay.proofs.ChangeLemmas.{HasChanges}
use Rattle.log_replay.proofs.replaying.make_changes.Given as goal

-- what is left makes of the store what all changes make of it
abbrev pub invariant-changes : goal.invariant-changes
invariant-changes g l = (low : ℕ) (cs : List Placed) → AreChanges low cs → l.fn.changes.rest.now ≡ changes_bytes cs →
    (left : List Placed) × HasChanges l.left.rest.now left × (held_after (edits_and_appends (length l.fn.store.draft) cs) l.fn.store
    ≡ held_after (edits_and_appends (length l.store.draft) left) l.store)

abbrev pub decreases-changes : goal.decreases-changes
decreases-changes g l = length l.left.rest.now
