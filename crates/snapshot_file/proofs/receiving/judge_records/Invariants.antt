use Rattle.std.proofs.Common.{◌≡◌, ◌+◌, ◌*◌, ◌++◌, ℕ, List, length, take}
use Rattle.snapshot_file.specs.Snapshots.{with_count, has_slots}
use Rattle.snapshot_file.proofs.receiving.judge_records.Given as goal

abbrev pub invariant-loop-k : goal.invariant-loop-k
invariant-loop-k l = record {
  judged : (before : List ℕ) → (m : ℕ) → length before ≡ m * l.header.record_len → l.good ≡ has_slots (with_count m l.header) before →
      l.all ≡ has_slots (with_count (m + l.k) l.header) (before ++ take (l.k * l.header.record_len) l.piece);
}
