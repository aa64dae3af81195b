use Rattle.std.proofs.Common.{◌≡◌, ◌≢◌, ℕ, ◌<◌}
use Rattle.std.specs.Prelude.{slice_index}
use Rattle.matrix_u32.specs.Matrix.{entry, IsWhole}
use Rattle.double_scheme.proofs.secrets.put_column.Given as goal

-- the column down to row d, and all else as it was
abbrev pub invariant-loop-d : goal.invariant-loop-d
invariant-loop-d l = record {
  rows : l.out.rows ≡ l.fn.out.rows;
  cols : l.out.cols ≡ l.fn.out.cols;
  whole : IsWhole l.out;
  here : (i : ℕ) → i < l.d → entry l.out i l.r ≡ slice_index l.column i;
  others : (i k : ℕ) → i < l.fn.out.rows → k < l.fn.out.cols → k ≢ l.r → entry l.out i k ≡ entry l.fn.out i k;
}
