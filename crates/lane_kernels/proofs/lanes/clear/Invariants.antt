use Rattle.std.proofs.Common.{◌≡◌, ℕ, ◌<◌}
use Rattle.matrix_u32.specs.Matrix.{IsWhole, entry}
use Rattle.lane_kernels.proofs.lanes.clear.Given as goal

abbrev pub invariant-loop-i : goal.invariant-loop-i
invariant-loop-i l = record {
  rows : l.m.rows ≡ l.fn.m.rows;
  cols : l.m.cols ≡ l.fn.m.cols;
  whole : IsWhole l.m;
  done : (p q : ℕ) → p < l.i → q < l.m.cols → entry l.m p q ≡ 0;
}
