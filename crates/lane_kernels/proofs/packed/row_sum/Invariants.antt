use Rattle.lane_kernels.proofs.PackedSums.{IsLanesSum}
use Rattle.lane_kernels.proofs.packed.row_sum.Given as goal

abbrev pub invariant-loop-i : goal.invariant-loop-i
invariant-loop-i l = IsLanesSum l.words l.x.a.now l.x.b.now l.x.c.now l.i l.sum
