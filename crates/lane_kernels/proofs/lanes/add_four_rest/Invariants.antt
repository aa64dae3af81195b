use Rattle.std.proofs.Common.{◌≡◌, ℕ, ◌<◌, ◌≤◌, ◌+◌, ◌*◌, ◌%◌, ◌^◌, slice_index}
use Rattle.lane_kernels.proofs.lanes.add_four_rest.Given as goal

abbrev pub invariant-loop-j : goal.invariant-loop-j
invariant-loop-j l = record {
  kept : (i : ℕ) → i < l.from → slice_index l.out i ≡ slice_index l.fn.out i;
  done : (i : ℕ) → l.from ≤ i → i < l.j → slice_index l.out i
      ≡ (slice_index l.fn.out i + l.f * slice_index l.p i + l.g * slice_index l.q i + l.h * slice_index l.r i + l.e * slice_index l.s i) % 2 ^ 32;
  rest : (i : ℕ) → l.j ≤ i → slice_index l.out i ≡ slice_index l.fn.out i;
}
