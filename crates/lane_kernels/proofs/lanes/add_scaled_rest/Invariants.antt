use Rattle.std.proofs.Common.{◌≡◌, ℕ, ◌<◌, ◌≤◌, ◌+◌, ◌*◌, ◌%◌, ◌^◌, slice_index}
use Rattle.lane_kernels.proofs.lanes.add_scaled_rest.Given as goal

abbrev pub invariant-loop-j : goal.invariant-loop-j
invariant-loop-j l = record {
  kept : (q : ℕ) → q < l.from → slice_index l.out q ≡ slice_index l.fn.out q;
  done : (q : ℕ) → l.from ≤ q → q < l.j → slice_index l.out q ≡ (slice_index l.fn.out q + l.k * slice_index l.x q) % 2 ^ 32;
  rest : (q : ℕ) → l.j ≤ q → slice_index l.out q ≡ slice_index l.fn.out q;
}
