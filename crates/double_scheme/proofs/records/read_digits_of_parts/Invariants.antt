use Rattle.std.proofs.Common.{◌≡◌, ℕ, ◌<◌}
use Rattle.std.specs.Prelude.{slice_index}
use Rattle.matrix_u32.specs.Matrix.{row}
use Rattle.regev_core.specs.Encryption.{nearest, stripped}
use Rattle.double_scheme.specs.Double.{answer_part, word_read}
use Rattle.double_scheme.proofs.records.read_digits_of_parts.Given as goal

-- the digits of the parts before d
abbrev pub invariant-loop-d : goal.invariant-loop-d
invariant-loop-d g l = (k : ℕ) → k < l.d → slice_index l.out k
    ≡ nearest l.reading.w (stripped (word_read l.reading.w l.first.hint.now.cols l.first.hint.now (row l.reading.secrets.now k) (answer_part l.reading.w l.first.hint.now.cols l.reading.answer.now k)) (row l.rows k) l.first.secret.now)
