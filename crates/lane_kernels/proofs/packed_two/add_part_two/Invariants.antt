use Rattle.std.proofs.Common.{◌≡◌, ℕ, ◌<◌, ◌≤◌, ◌*◌, ◌+◌, ◌%◌, ◌^◌, slice_index}
use Rattle.matrix_u32.specs.Sum.{sum_below}
use Rattle.lane_kernels.specs.Carried.{products_at}
use Rattle.lane_kernels.proofs.packed_two.add_part_two.Given as goal

abbrev pub invariant-loop-t : goal.invariant-loop-t
invariant-loop-t l = record {
  x_done : (q : ℕ) → q < l.t * 4 → slice_index l.x_out q
      ≡ (slice_index l.fn.x_out q + sum_below l.count (λ t. products_at l.packed l.x (q * l.words) (l.start + t))) % 2 ^ 32;
  x_rest : (q : ℕ) → l.t * 4 ≤ q → slice_index l.x_out q ≡ slice_index l.fn.x_out q;
  y_done : (q : ℕ) → q < l.t * 4 → slice_index l.y_out q
      ≡ (slice_index l.fn.y_out q + sum_below l.count (λ t. products_at l.packed l.y (q * l.words) (l.start + t))) % 2 ^ 32;
  y_rest : (q : ℕ) → l.t * 4 ≤ q → slice_index l.y_out q ≡ slice_index l.fn.y_out q;
}
