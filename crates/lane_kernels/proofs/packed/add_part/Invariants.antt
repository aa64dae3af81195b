use Rattle.std.proofs.Common.{◌≡◌, ℕ, ◌<◌, ◌≤◌, ◌*◌, ◌+◌, ◌%◌, ◌^◌, slice_index}
use Rattle.matrix_u32.specs.Sum.{sum_below}
use Rattle.lane_kernels.specs.Carried.{products_at}
use Rattle.lane_kernels.proofs.packed.add_part.Given as goal

abbrev pub invariant-loop-t : goal.invariant-loop-t
invariant-loop-t l = record {
  done : (q : ℕ) → q < l.t * 8 → slice_index l.out q
      ≡ (slice_index l.fn.out q + sum_below l.count (λ t. products_at l.packed l.x (q * l.words) (l.start + t))) % 2 ^ 32;
  rest : (q : ℕ) → l.t * 8 ≤ q → slice_index l.out q ≡ slice_index l.fn.out q;
}
