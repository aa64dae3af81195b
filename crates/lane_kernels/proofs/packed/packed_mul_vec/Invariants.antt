use Rattle.std.proofs.Common.{◌≤◌, ◌-◌}
use Rattle.lane_kernels.proofs.PackedSums.{RowsSoFar}
use Rattle.lane_kernels.proofs.packed.packed_mul_vec.Given as goal

abbrev pub invariant-loop-start : goal.invariant-loop-start
invariant-loop-start l = record {
  within : l.start ≤ l.words;
  so_far : RowsSoFar l.packed l.x l.words l.start l.out;
}

abbrev pub decreases-loop-start : goal.decreases-loop-start
decreases-loop-start l = l.words - l.start
