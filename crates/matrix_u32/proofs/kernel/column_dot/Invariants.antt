use Rattle.std.proofs.Common.{◌≡◌, ◌*◌, ◌%◌, ◌^◌}
use Rattle.matrix_u32.specs.Sum.{sum_below}
use Rattle.matrix_u32.specs.Matrix.{entry}
use Rattle.matrix_u32.proofs.kernel.column_dot.Given as goal

abbrev pub invariant-loop-k : goal.invariant-loop-k
invariant-loop-k l = l.sum ≡ sum_below l.k (λ k. entry l.a l.i k * entry l.b k l.j) % 2 ^ 32
