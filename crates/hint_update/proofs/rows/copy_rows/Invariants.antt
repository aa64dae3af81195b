use Rattle.std.proofs.Common.{◌≡◌, ℕ, ◌<◌}
use Rattle.std.specs.Prelude.{slice_index}
use Rattle.matrix_u32.specs.Matrix.{IsWhole, entry}
use Rattle.hint_update.proofs.rows.copy_rows.Given as goal

abbrev pub invariant-loop-k : goal.invariant-loop-k
invariant-loop-k l = record {
  rows : l.to.rows ≡ l.fn.to.rows;
  cols : l.to.cols ≡ l.fn.to.cols;
  whole : IsWhole l.to;
  copied : (k q : ℕ) → k < l.k → q < l.from.cols → entry l.to k q ≡ entry l.from (slice_index l.listed k) q;
}
