use Rattle.std.proofs.Common.{◌≡◌, ℕ, ◌<◌, length}
use Rattle.matrix_u32.specs.Sum.{dot}
use Rattle.matrix_u32.specs.Matrix.{entry, row}
use Rattle.double_scheme.proofs.secrets.put_matrix_products.Given as goal

-- the columns before r
abbrev pub invariant-loop-r : goal.invariant-loop-r
invariant-loop-r g l = record {
  rows : l.out.rows ≡ l.fn.out.rows;
  cols : l.out.cols ≡ l.fn.out.cols;
  tall : length l.column_room ≡ l.secrets.rows;
  filled : (d k : ℕ) → d < l.fn.out.rows → k < l.r → entry l.out d k ≡ dot (row l.a k) (row l.secrets d);
}
