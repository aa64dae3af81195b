use Rattle.std.proofs.Common.{◌≡◌, ℕ, ◌<◌, ◌*◌, length}
use Rattle.matrix_u32.specs.Sum.{dot}
use Rattle.matrix_u32.specs.Matrix.{entry, row}
use Rattle.seed_expand.specs.Words.{further, source_rows}
use Rattle.double_scheme.proofs.secrets.put_products.Given as goal

-- the columns before r, and the source's place
abbrev pub invariant-loop-r : goal.invariant-loop-r
invariant-loop-r g l = record {
  rows : l.out.rows ≡ l.fn.out.rows;
  cols : l.out.cols ≡ l.fn.out.cols;
  wide : length l.row_room ≡ l.secrets.cols;
  tall : length l.column_room ≡ l.secrets.rows;
  source : l.source ≡ further l.fn.source (l.r * l.secrets.cols);
  filled : (d k : ℕ) → d < l.fn.out.rows → k < l.r →
      entry l.out d k ≡ dot (row (source_rows l.fn.source l.fn.out.cols l.secrets.cols) k) (row l.secrets d);
}
