use Rattle.std.proofs.Common.{◌≡◌, ◌-◌, ◌≤◌, length}
use Rattle.std.specs.List.{range_with_len}
use Rattle.hint_changes.specs.Changes.{changes_at}
use Rattle.record_log.specs.OldRecords.{entries_bytes}
use Rattle.record_log.specs.Logs.{records_of_bytes, undone_all}
use Rattle.record_log.specs.Steps.{olds_of}
use Rattle.record_log.proofs.since.changes_in.Given as goal

abbrev pub invariant-loop-number : goal.invariant-loop-number
invariant-loop-number g l =
    let after = records_of_bytes (g.S.RecordSource.record_len l.current) l.count (g.S.RecordSource.bytes l.current) in
    record {
      written : l.entries.items ≡ entries_bytes (changes_at (undone_all (olds_of l.lists) after) after (range_with_len 0 l.least));
      few : length l.entries.items ≤ l.most;
      low : l.least ≤ l.count;
    }

abbrev pub decreases-loop-number : goal.decreases-loop-number
decreases-loop-number g l = l.count - l.least
