use Rattle.std.proofs.Common.{◌≡◌, ℕ, List, length}
use Rattle.publication_log.specs.Publications.{Published}
use Rattle.publication_log.specs.Entries.{chain_bytes}
use Rattle.publication_log.specs.Logs.{bodies_of, AreNext}
use Rattle.publisher_drafts.specs.Merging.{are_entries_of, count_after_entries}
use Rattle.log_replay.proofs.ReplayLemmas.{HasEntries}
use Rattle.publisher_drafts.proofs.entries.judge_entries.Given as goal

-- what is left decides, and counts
abbrev pub invariant-entries : goal.invariant-entries
invariant-entries l = (link : List ℕ) (version : ℕ) (ps : List Published) → AreNext version ps → l.fn.entries.rest.now ≡ chain_bytes link (bodies_of ps) →
    (left : List Published) × HasEntries l.left.rest.now left × (are_entries_of l.plan l.count ps ≡ are_entries_of l.plan l.after left)
    × (count_after_entries l.count ps ≡ count_after_entries l.after left)

abbrev pub decreases-entries : goal.decreases-entries
decreases-entries l = length l.left.rest.now
