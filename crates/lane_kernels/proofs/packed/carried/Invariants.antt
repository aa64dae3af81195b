use Rattle.std.proofs.Common.{◌≡◌, ℕ, ◌<◌, ◌*◌, ◌+◌, ◌%◌, ◌^◌, length, slice_index}
use Rattle.lane_kernels.proofs.packed.carried.Given as goal

abbrev pub invariant-loop-t : goal.invariant-loop-t
invariant-loop-t l = record {
  long : length l.out ≡ 10944;
  done : (q : ℕ) → q < l.t → (slice_index l.out q + 1024 * slice_index l.x (l.first + 3 * q)) % 2 ^ 32 ≡ slice_index l.x (l.first + 3 * q + 1) % 2 ^ 32;
}
