use Rattle.std.proofs.Common.{ap, ◌∙◌, ℕ, List}
use Rattle.matrix_u32.specs.Sum.{dot}
use Rattle.matrix_u32.specs.Matrix.{WordMatrix, row, transpose, times_vector}
use Rattle.matrix_u32.proofs.Products.{length-list_of}
use Rattle.digit_pack.specs.Digits.{decomposed}
use Rattle.double_scheme.specs.Double.{one_column}
use Rattle.double_scheme.proofs.Answering.{column_is_row}
use Rattle.double_scheme.proofs.answers.put_first_answer.Goals as goal

pub returns : goal.returns
returns g c =
    let d : WordMatrix = g.S.DigitStore.digits c.args.digits.now in
    let words : List ℕ = times_vector d c.args.words.now in
    c.put_digits.ensures
    ∙ ap (λ (ws : List ℕ). decomposed c.args.w (transpose (one_column ws))) c.mul_vec.ensures
    ∙ ap (λ (n : ℕ). decomposed c.args.w (transpose (record { rows = n; cols = 1; words = words }))) (length-list_of d.rows (λ i. dot (row d i) c.args.words.now))
    ∙ ap (decomposed c.args.w) (column_is_row d c.args.words.now c.requires.words)
