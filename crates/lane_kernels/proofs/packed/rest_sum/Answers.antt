use Rattle.std.proofs.Common.{refl}
use Rattle.matrix_u32.proofs.Sums.{sum_below_none, sum_below_more}
use Rattle.lane_kernels.proofs.PackedSums.{shifted_step}
use Rattle.lane_kernels.proofs.packed.rest_sum.Goals as goal

pub loop-t-init : goal.loop-t-init
loop-t-init c = rw sum_below_none refl

pub loop-t-preserved : goal.loop-t-preserved
loop-t-preserved c = rw sum_below_more (shifted_step _ _ _ _ _ _ c.loop-t.invariant)
