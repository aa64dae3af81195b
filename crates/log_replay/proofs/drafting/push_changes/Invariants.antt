use Rattle.std.proofs.Common.{◌≡◌, ◌-◌, [], length}
use Rattle.publication_log.specs.Publications.{Published}
use Rattle.publication_log.specs.Builders.{IsMadeOf}
use Rattle.log_replay.proofs.DraftedChanges.{IsMadeUpTo}
use Rattle.log_replay.proofs.drafting.push_changes.Given as goal

-- the publication so far has the changes up to a place
abbrev pub invariant-changes : goal.invariant-changes
invariant-changes g l = (p : Published) → IsMadeOf l.fn.builder p → p.changes ≡ [] →
    (q : Published) × IsMadeOf l.builder q × (q.version ≡ p.version) × IsMadeUpTo l.store l.from q.changes

abbrev pub decreases-changes : goal.decreases-changes
decreases-changes g l = length l.store.draft - l.from
