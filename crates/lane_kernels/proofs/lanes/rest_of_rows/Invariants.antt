use Rattle.std.proofs.Common.{◌≡◌, ℕ, ◌<◌, ◌≤◌, slice_index}
use Rattle.matrix_u32.specs.Sum.{dot}
use Rattle.matrix_u32.specs.Matrix.{row}
use Rattle.lane_kernels.proofs.lanes.rest_of_rows.Given as goal

abbrev pub invariant-loop-i : goal.invariant-loop-i
invariant-loop-i l = record {
  kept : (q : ℕ) → q < l.from → slice_index l.out q ≡ slice_index l.fn.out q;
  done : (q : ℕ) → l.from ≤ q → q < l.i → slice_index l.out q ≡ dot (row l.a q) l.x;
}
