use Rattle.std.proofs.Common.{◌≡◌, ℕ, ◌+◌, ◌<◌}
use Rattle.std.specs.Prelude.{slice_index}
use Rattle.matrix_u32.specs.Matrix.{entry}
use Rattle.digit_pack.proofs.holding.read_digits.Given as goal

abbrev pub invariant-loop-d : goal.invariant-loop-d
invariant-loop-d g l = (k : ℕ) → k < l.d → slice_index l.out k ≡ entry (g.S.DigitStore.digits l.digits) (l.first + k) l.col
