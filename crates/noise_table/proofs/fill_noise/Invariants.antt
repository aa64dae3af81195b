use Rattle.std.proofs.Common.{◌≡◌, ℕ, ◌<◌, pos}
use Rattle.std.specs.Prelude.{slice_index_or}
use Rattle.seed_expand.specs.Words.{source_word, further}
use Rattle.noise_table.specs.Noise.{noise}
use Rattle.noise_table.proofs.fill_noise.Given as goal

-- the slice so far, and the source's place
abbrev pub invariant-loop-noise : goal.invariant-loop-noise
invariant-loop-noise l = record {
  source : l.source ≡ further l.fn.source l.noise-index;
  filled : (k : ℕ) → k < l.noise-index → slice_index_or l.out k (pos 0) ≡ noise (source_word l.fn.source k);
}
