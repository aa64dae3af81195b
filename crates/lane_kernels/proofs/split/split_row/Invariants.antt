use Rattle.std.proofs.Common.{◌≡◌, ℕ, ◌<◌, ◌*◌, ◌/◌, ◌%◌, ◌^◌, slice_index}
use Rattle.lane_kernels.proofs.split.split_row.Given as goal

abbrev pub invariant-loop-i : goal.invariant-loop-i
invariant-loop-i l = (q : ℕ) → q < l.i * 8 → slice_index l.out q ≡ slice_index l.x q / 2 ^ (l.w * l.k) % 2 ^ l.w
