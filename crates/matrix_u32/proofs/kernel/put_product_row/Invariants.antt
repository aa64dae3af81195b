use Rattle.std.proofs.Common.{◌≡◌, ℕ, ◌<◌, length}
use Rattle.std.specs.Prelude.{slice_index}
use Rattle.matrix_u32.specs.Sum.{dot}
use Rattle.matrix_u32.specs.Matrix.{row, column}
use Rattle.matrix_u32.proofs.kernel.put_product_row.Given as goal

-- the words before column j are done
abbrev pub invariant-loop-j : goal.invariant-loop-j
invariant-loop-j l = record {
  count : length l.out ≡ l.b.cols;
  done : (k : ℕ) → k < l.j → slice_index l.out k ≡ dot (row l.a l.i) (column l.b k);
}
