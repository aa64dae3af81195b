use Rattle.std.proofs.Common.{◌≡◌, ℕ, ◌<◌}
use Rattle.matrix_u32.specs.Matrix.{IsWhole, entry, product}
use Rattle.matrix_u32.proofs.kernel.PlainKernel.mul_into.Given as goal

-- the rows before i are done
abbrev pub invariant-loop-i : goal.invariant-loop-i
invariant-loop-i l = record {
  rows : l.out.rows ≡ l.a.rows;
  cols : l.out.cols ≡ l.b.cols;
  whole : IsWhole l.out;
  done : (p q : ℕ) → p < l.i → q < l.b.cols → entry l.out p q ≡ entry (product l.a l.b) p q;
}
