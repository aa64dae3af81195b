use Rattle.std.proofs.Common.{◌≡◌, ℕ, ◌<◌, ◌*◌, length}
use Rattle.std.specs.Prelude.{slice_index}
use Rattle.matrix_u32.specs.Sum.{dot}
use Rattle.matrix_u32.specs.Matrix.{row}
use Rattle.seed_expand.specs.Words.{further, source_rows}
use Rattle.seed_expand.proofs.expand_times.Given as goal

-- the words so far, and the source's place
abbrev pub invariant-loop-word : goal.invariant-loop-word
invariant-loop-word g l = record {
  wide : length l.row ≡ length l.x;
  source : l.source ≡ further l.fn.source (l.word-index * length l.x);
  filled : (k : ℕ) → k < l.word-index → slice_index l.out k ≡ dot (row (source_rows l.fn.source (length l.fn.out) (length l.x)) k) l.x;
}
