use Rattle.std.proofs.Common.{◌≡◌, ℕ, ◌<◌, ◌≤◌, ◌+◌, ◌*◌, ◌%◌, ◌^◌, slice_index}
use Rattle.lane_kernels.proofs.lanes.add_four.Given as goal

abbrev pub invariant-loop-i : goal.invariant-loop-i
invariant-loop-i l = record {
  done : (j : ℕ) → j < l.i * 16 → slice_index l.out j
      ≡ (slice_index l.fn.out j + l.f * slice_index l.p j + l.g * slice_index l.q j + l.h * slice_index l.r j + l.e * slice_index l.s j) % 2 ^ 32;
  rest : (j : ℕ) → l.i * 16 ≤ j → slice_index l.out j ≡ slice_index l.fn.out j;
}
