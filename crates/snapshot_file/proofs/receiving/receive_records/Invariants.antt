use Rattle.std.proofs.Common.{◌≡◌, ◌≤◌, ◌-◌, ◌*◌, ◌++◌, List, ℕ, length}
use Rattle.std.specs.Io.KnownBytes.{Consumes}
use Rattle.sha2.specs.Hashers.{Holds256}
use Rattle.snapshot_file.specs.Snapshots.{with_count, has_slots}
use Rattle.snapshot_file.proofs.receiving.receive_records.Given as goal

abbrev pub invariant-loop-i : goal.invariant-loop-i
invariant-loop-i g l = record {
  within : l.i ≤ l.count;
  room : length l.buffer ≡ length l.fn.buffer;
  shape : g.S.RecordSink.shape l.sink ≡ g.S.RecordSink.shape l.fn.sink;
  long : length (g.S.RecordSink.taken l.sink) ≡ l.i * l.header.record_len;
  good : l.good ≡ has_slots (with_count l.i l.header) (g.S.RecordSink.taken l.sink);
  read : Consumes (g.R.Read.remaining l.fn.reader) (g.R.Read.remaining l.reader) (g.S.RecordSink.taken l.sink);
  hashed : (m : List ℕ) → Holds256 l.fn.hasher m → Holds256 l.hasher (m ++ g.S.RecordSink.taken l.sink);
}

abbrev pub decreases-loop-i : goal.decreases-loop-i
decreases-loop-i g l = l.count - l.i
