use Rattle.std.proofs.Common.{◌≡◌, ◌*◌, ◌%◌, ◌^◌, slice_index}
use Rattle.std.specs.Simd.Lanes.{sum_l}
use Rattle.matrix_u32.specs.Sum.{sum_below}
use Rattle.lane_kernels.proofs.lanes.dot_four.Given as goal

abbrev pub invariant-loop-i : goal.invariant-loop-i
invariant-loop-i l = record {
  first : sum_l l.a % 2 ^ 32 ≡ sum_below (l.i * 8) (λ k. slice_index l.p k * slice_index l.x k) % 2 ^ 32;
  second : sum_l l.b % 2 ^ 32 ≡ sum_below (l.i * 8) (λ k. slice_index l.q k * slice_index l.x k) % 2 ^ 32;
  third : sum_l l.c % 2 ^ 32 ≡ sum_below (l.i * 8) (λ k. slice_index l.r k * slice_index l.x k) % 2 ^ 32;
  fourth : sum_l l.d % 2 ^ 32 ≡ sum_below (l.i * 8) (λ k. slice_index l.s k * slice_index l.x k) % 2 ^ 32;
}
