use Rattle.std.proofs.Common.{◌≡◌, ℕ, List, [], length}
use Rattle.publication_log.specs.Publications.{Published}
use Rattle.publication_log.specs.Entries.{chain_bytes}
use Rattle.publication_log.specs.Logs.{bodies_of, AreNext}
use Rattle.publisher_drafts.specs.Merging.{changes_of_map, merged_all}
use Rattle.log_replay.proofs.ReplayLemmas.{HasEntries}
use Rattle.publisher_drafts.proofs.entries.merged_of.Given as goal

-- what is left makes of the changes what all entries make of none
abbrev pub invariant-entries : goal.invariant-entries
invariant-entries l = (link : List ℕ) (version : ℕ) (ps : List Published) → AreNext version ps → l.fn.entries.rest.now ≡ chain_bytes link (bodies_of ps) →
    (left : List Published) × HasEntries l.left.rest.now left × (merged_all [] ps ≡ merged_all (changes_of_map l.changes.entries) left)

abbrev pub decreases-entries : goal.decreases-entries
decreases-entries l = length l.left.rest.now
