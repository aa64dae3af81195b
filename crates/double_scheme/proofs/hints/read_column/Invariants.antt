use Rattle.std.proofs.Common.{◌≡◌, ℕ, ◌<◌, length}
use Rattle.std.specs.Prelude.{slice_index}
use Rattle.matrix_u32.specs.Matrix.{entry}
use Rattle.double_scheme.proofs.hints.read_column.Given as goal

abbrev pub invariant-loop-i : goal.invariant-loop-i
invariant-loop-i l = record {
  count : length l.words ≡ length l.fn.words;
  done : (k : ℕ) → k < l.i → slice_index l.words k ≡ entry l.a k l.j;
}
