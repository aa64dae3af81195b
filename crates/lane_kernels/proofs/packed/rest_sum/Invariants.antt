use Rattle.std.proofs.Common.{◌≡◌, ◌%◌, ◌^◌, slice_index}
use Rattle.matrix_u32.specs.Sum.{sum_below}
use Rattle.lane_kernels.specs.Carried.{shifted_products}
use Rattle.lane_kernels.proofs.packed.rest_sum.Given as goal

abbrev pub invariant-loop-t : goal.invariant-loop-t
invariant-loop-t l = l.total
    ≡ sum_below l.t (λ t. shifted_products (slice_index l.words t) (slice_index l.a t) (slice_index l.b t) (slice_index l.c t)) % 2 ^ 32
