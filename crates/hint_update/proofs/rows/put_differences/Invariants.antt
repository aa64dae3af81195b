use Rattle.std.proofs.Common.{◌≡◌, ◌≢◌, ℕ, ◌+◌, ◌-◌, ◌%◌, ◌^◌, ◌<◌}
use Rattle.std.specs.Prelude.{slice_index}
use Rattle.matrix_u32.specs.Matrix.{IsWhole, entry}
use Rattle.hint_update.proofs.rows.put_differences.Given as goal

abbrev pub invariant-loop-b : goal.invariant-loop-b
invariant-loop-b l = record {
  rows : l.changes.rows ≡ l.fn.changes.rows;
  cols : l.changes.cols ≡ l.fn.changes.cols;
  whole : IsWhole l.changes;
  differences : (b : ℕ) → b < l.b → entry l.changes b l.k ≡ (slice_index l.new b + (2 ^ 32 - slice_index l.old b)) % 2 ^ 32;
  others : (b q : ℕ) → q ≢ l.k → q < l.fn.changes.cols → entry l.changes b q ≡ entry l.fn.changes b q;
}
