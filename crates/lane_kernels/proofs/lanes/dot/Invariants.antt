use Rattle.std.proofs.Common.{◌≡◌, ◌*◌, ◌%◌, ◌^◌, slice_index}
use Rattle.std.specs.Simd.Lanes.{sum_l}
use Rattle.matrix_u32.specs.Sum.{sum_below}
use Rattle.lane_kernels.proofs.lanes.dot.Given as goal

abbrev pub invariant-loop-i : goal.invariant-loop-i
invariant-loop-i l =
    sum_l l.sum % 2 ^ 32 ≡ sum_below (l.i * 8) (λ k. slice_index l.x k * slice_index l.y k) % 2 ^ 32
