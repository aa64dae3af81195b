use Rattle.std.proofs.Common.{◌≡◌, ℕ, ◌<◌, ◌≤◌, ◌+◌, ◌*◌, ◌%◌, ◌^◌, slice_index}
use Rattle.lane_kernels.proofs.lanes.add_scaled.Given as goal

abbrev pub invariant-loop-i : goal.invariant-loop-i
invariant-loop-i l = record {
  done : (q : ℕ) → q < l.i * 16 → slice_index l.out q ≡ (slice_index l.fn.out q + l.k * slice_index l.x q) % 2 ^ 32;
  rest : (q : ℕ) → l.i * 16 ≤ q → slice_index l.out q ≡ slice_index l.fn.out q;
}
