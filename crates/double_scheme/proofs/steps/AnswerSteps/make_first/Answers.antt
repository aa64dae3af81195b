use Rattle.std.proofs.Common.{ap, ◌∙◌, ℕ, List}
use Rattle.matrix_u32.specs.Matrix.{transpose}
use Rattle.digit_pack.specs.Layout.{Shape}
use Rattle.digit_pack.specs.Digits.{decomposed}
use Rattle.double_scheme.specs.Double.{one_column}
use Rattle.double_scheme.proofs.steps.AnswerSteps.make_first.Goals as goal

pub returns-clause-first : goal.returns-clause-first
returns-clause-first g c =
    let l : Shape = c.args.self.now.layout in
    c.put_digits.ensures
    ∙ ap (λ (w : ℕ). decomposed w (transpose (one_column c.deref.result.now))) c.width.ensures.value
    ∙ ap (λ (ws : List ℕ). decomposed l.width (transpose (one_column ws))) c.deref.ensures.value
