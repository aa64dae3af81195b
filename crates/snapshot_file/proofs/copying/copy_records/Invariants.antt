use Rattle.std.proofs.Common.{◌≡◌, ◌≤◌, ◌-◌, ◌++◌, List, ℕ, length}
use Rattle.std.specs.Io.KnownBytes.{Appends, Consumes}
use Rattle.sha2.specs.Hashers.{Holds256}
use Rattle.snapshot_file.proofs.copying.copy_records.Given as goal

abbrev pub invariant-loop-at : goal.invariant-loop-at
invariant-loop-at g l = record {
  within : l.at ≤ l.len;
  room : length l.buffer ≡ length l.fn.buffer;
  done : (records : List ℕ) × (length records ≡ l.at)
      × Consumes (g.R.Read.remaining l.fn.reader) (g.R.Read.remaining l.reader) records
      × Appends (g.W.Write.contents l.fn.writer) (g.W.Write.contents l.writer) records
      × ((m : List ℕ) → Holds256 l.fn.hasher m → Holds256 l.hasher (m ++ records));
}

abbrev pub decreases-loop-at : goal.decreases-loop-at
decreases-loop-at g l = l.len - l.at
