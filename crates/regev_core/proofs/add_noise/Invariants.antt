use Rattle.std.proofs.Common.{◌≡◌, ℕ, ◌+◌, ◌%◌, ◌^◌, ◌<◌, ◌≤◌, pos, length}
use Rattle.std.specs.Prelude.{slice_index, slice_index_or}
use Rattle.matrix_u32.specs.Sum.{residue}
use Rattle.regev_core.proofs.add_noise.Given as goal

-- the words before j have their noise, the others don't yet
abbrev pub invariant-loop-j : goal.invariant-loop-j
invariant-loop-j l = record {
  done : (k : ℕ) → k < l.j → slice_index l.out k ≡ (slice_index l.fn.out k + residue (slice_index_or l.e k (pos 0))) % 2 ^ 32;
  rest : (k : ℕ) → l.j ≤ k → k < length l.fn.out → slice_index l.out k ≡ slice_index l.fn.out k;
}
