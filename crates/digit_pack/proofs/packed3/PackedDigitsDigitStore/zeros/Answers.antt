use Rattle.std.proofs.Common.{◌∙◌, ◌≡◌, ◌*◌, rules}
use Rattle.std.specs.Prelude.{replicate}
use Rattle.std.proofs.lemmas.List.{length-replicate}
use Rattle.matrix_u32.specs.Matrix.{WordMatrix}
use Rattle.digit_pack.proofs.Triples.{zeros_packed, small_zeros, holds, stays_packed}
use Rattle.digit_pack.proofs.packed3.PackedDigitsDigitStore.zeros.Goals as goal

pub invariant_of-result : goal.invariant_of-result
invariant_of-result g c =
    let m : WordMatrix = record { rows = c.args.rows; cols = c.args.cols; words = replicate (c.args.rows * c.args.cols) 0 } in
    let items : c.in-Ok.words.items ≡ replicate (c.args.rows * c.row_words.result) 0 = search rules in (
      stays_packed m c.in-Ok.words.items (length-replicate (c.args.rows * c.args.cols) 0) (small_zeros c.args.rows c.args.cols)
          (items ∙ zeros_packed c.args.rows c.args.cols c.row_words.result c.row_words.ensures),
      c.in_ok-judge_size.ensures.fits,
    )

pub returns-in-Ok-clause-zeros : goal.returns-in-Ok-clause-zeros
returns-in-Ok-clause-zeros g c =
    let m : WordMatrix = record { rows = c.args.rows; cols = c.args.cols; words = replicate (c.args.rows * c.args.cols) 0 } in
    let items : c.in-Ok.words.items ≡ replicate (c.args.rows * c.row_words.result) 0 = search rules in
    let is = holds m c.in-Ok.words.items (length-replicate (c.args.rows * c.args.cols) 0) (small_zeros c.args.rows c.args.cols)
    (items ∙ zeros_packed c.args.rows c.args.cols c.row_words.result c.row_words.ensures) in
    (is, c.in_ok-judge_size.ensures.fits)
