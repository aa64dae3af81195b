use Rattle.std.proofs.Common.{◌≡◌, ℕ, ◌+◌, ◌<◌}
use Rattle.std.specs.Prelude.{slice_index}
use Rattle.matrix_u32.specs.Matrix.{row}
use Rattle.regev_core.specs.Encryption.{nearest, stripped}
use Rattle.simple_scheme.proofs.records.read_digits.Given as goal

abbrev pub invariant-loop-d : goal.invariant-loop-d
invariant-loop-d g l = (k : ℕ) → k < l.d → slice_index l.out k ≡ nearest l.w (stripped (slice_index l.answer (l.first + k)) (row l.hint (l.first + k)) l.s)
