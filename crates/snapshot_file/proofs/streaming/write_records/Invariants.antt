use Rattle.std.proofs.Common.{◌≡◌, ◌≤◌, ◌-◌, ◌*◌, ◌++◌, List, ℕ, length, take}
use Rattle.std.specs.Io.KnownBytes.{Appends}
use Rattle.sha2.specs.Hashers.{Holds256}
use Rattle.snapshot_file.proofs.streaming.write_records.Given as goal

abbrev pub invariant-loop-i : goal.invariant-loop-i
invariant-loop-i g l = record {
  within : l.i ≤ l.count;
  room : length l.buffer ≡ length l.fn.buffer;
  out : Appends (g.W.Write.contents l.fn.writer) (g.W.Write.contents l.writer) (take (l.i * l.record_len) (g.S.RecordSource.bytes l.source));
  hashed : (m : List ℕ) → Holds256 l.fn.hasher m → Holds256 l.hasher (m ++ take (l.i * l.record_len) (g.S.RecordSource.bytes l.source));
}

abbrev pub decreases-loop-i : goal.decreases-loop-i
decreases-loop-i g l = l.count - l.i
