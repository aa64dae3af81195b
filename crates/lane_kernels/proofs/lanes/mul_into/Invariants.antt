use Rattle.std.proofs.Common.{◌≤◌, ◌-◌}
use Rattle.lane_kernels.proofs.BlockSums.{SoFar}
use Rattle.lane_kernels.proofs.lanes.mul_into.Given as goal

abbrev pub invariant-loop-start : goal.invariant-loop-start
invariant-loop-start l = record {
  within : l.start ≤ l.inner;
  so_far : SoFar l.a l.b l.out l.start;
}

abbrev pub decreases-loop-start : goal.decreases-loop-start
decreases-loop-start l = l.inner - l.start
