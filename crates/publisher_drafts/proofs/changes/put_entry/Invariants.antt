use Rattle.std.proofs.Common.{◌≡◌, ℕ, List, length}
use Rattle.publication_log.specs.Publications.{Placed, changes_bytes, AreChanges}
use Rattle.publisher_drafts.specs.Merging.{changes_of_map, merged}
use Rattle.log_replay.proofs.ChangeLemmas.{HasChanges}
use Rattle.publisher_drafts.proofs.changes.put_entry.Given as goal

-- what is left makes of the changes what all of the entry make of them
abbrev pub invariant-changes : goal.invariant-changes
invariant-changes l = (low : ℕ) (cs : List Placed) → AreChanges low cs → l.fn.entry.rest.now ≡ changes_bytes cs →
    (left : List Placed) × HasChanges l.left.rest.now left × (merged (changes_of_map l.fn.changes.entries) cs ≡ merged (changes_of_map l.changes.entries) left)

abbrev pub decreases-changes : goal.decreases-changes
decreases-changes l = length l.left.rest.now
