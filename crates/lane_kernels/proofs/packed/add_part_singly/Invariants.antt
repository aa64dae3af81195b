use Rattle.std.proofs.Common.{◌≡◌, ℕ, ◌<◌, ◌≤◌, ◌+◌, ◌*◌, ◌%◌, ◌^◌, length, slice_index, slice_range}
use Rattle.lane_kernels.specs.Carried.{shifted_sum}
use Rattle.lane_kernels.proofs.packed.add_part_singly.Given as goal

abbrev pub invariant-loop-r : goal.invariant-loop-r
invariant-loop-r l = record {
  kept : (q : ℕ) → q < l.from → slice_index l.out q ≡ slice_index l.fn.out q;
  done : (q : ℕ) → l.from ≤ q → q < l.r → slice_index l.out q
      ≡ (slice_index l.fn.out q + shifted_sum (slice_range l.packed (q * l.words + l.start) (q * l.words + l.start + length l.x.a.now)) l.x.a.now l.x.b.now l.x.c.now) % 2 ^ 32;
  rest : (q : ℕ) → l.r ≤ q → slice_index l.out q ≡ slice_index l.fn.out q;
}
