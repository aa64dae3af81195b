use Rattle.std.proofs.Common.{◌≡◌, ℕ, ◌<◌}
use Rattle.std.specs.Prelude.{slice_index}
use Rattle.seed_expand.specs.Words.{source_word, further}
use Rattle.seed_expand.proofs.fill_words.Given as goal

-- the slice so far, and the source's place
abbrev pub invariant-loop-word : goal.invariant-loop-word
invariant-loop-word l = record {
  source : l.source ≡ further l.fn.source l.word-index;
  filled : (k : ℕ) → k < l.word-index → slice_index l.out k ≡ source_word l.fn.source k;
}
