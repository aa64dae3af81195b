use Rattle.std.proofs.Common.{◌≡◌, ℕ, ◌<◌, length}
use Rattle.std.specs.Prelude.{slice_index}
use Rattle.matrix_u32.specs.Matrix.{entry}
use Rattle.simple_scheme.proofs.hints.read_row.Given as goal

abbrev pub invariant-loop-j : goal.invariant-loop-j
invariant-loop-j g l = record {
  count : length l.out ≡ length l.fn.out;
  done : (k : ℕ) → k < l.j → slice_index l.out k ≡ entry (g.S.DigitStore.digits l.digits) l.i k;
}
