use Rattle.std.proofs.Common.{◌≡◌, ℕ, List, length}
use Rattle.publication_log.specs.Publications.{Placed, changes_bytes, AreChanges}
use Rattle.version_store.specs.Openings.{IsSound, plan_held, records_for}
use Rattle.log_replay.specs.Replays.{records_replayed}
use Rattle.log_replay.specs.Records.{with_record_count}
use Rattle.log_replay.proofs.ChangeLemmas.{HasChanges}
use Rattle.log_replay.proofs.records.put_changes.Given as goal

-- what is left makes of the records what all changes make of them
abbrev pub invariant-changes : goal.invariant-changes
invariant-changes g l = record {
  plan : l.plan ≡ plan_held (g.H.RecordHolder.header l.held);
  sound : IsSound (g.H.RecordHolder.header l.held) (g.H.RecordHolder.bytes l.held);
  header : g.H.RecordHolder.header l.held ≡ with_record_count (g.H.RecordHolder.header l.fn.held) (g.H.RecordHolder.header l.held).count;
  put : (low : ℕ) (cs : List Placed) → AreChanges low cs → l.fn.changes.rest.now ≡ changes_bytes cs →
      (left : List Placed) × HasChanges l.left.rest.now left
      × (records_replayed (records_for (g.H.RecordHolder.header l.fn.held) (g.H.RecordHolder.bytes l.fn.held)) cs
      ≡ records_replayed (records_for (g.H.RecordHolder.header l.held) (g.H.RecordHolder.bytes l.held)) left);
}

abbrev pub decreases-changes : goal.decreases-changes
decreases-changes g l = length l.left.rest.now
