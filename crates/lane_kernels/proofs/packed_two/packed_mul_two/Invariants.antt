use Rattle.std.proofs.Common.{◌≤◌, ◌-◌}
use Rattle.lane_kernels.proofs.PackedSums.{RowsSoFar}
use Rattle.lane_kernels.proofs.packed_two.packed_mul_two.Given as goal

abbrev pub invariant-loop-start : goal.invariant-loop-start
invariant-loop-start l = record {
  within : l.start ≤ l.words;
  x : RowsSoFar l.packed l.x l.words l.start l.x_out;
  y : RowsSoFar l.packed l.y l.words l.start l.y_out;
}

abbrev pub decreases-loop-start : goal.decreases-loop-start
decreases-loop-start l = l.words - l.start
