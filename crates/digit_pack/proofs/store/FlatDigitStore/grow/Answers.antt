use Rattle.std.proofs.Common.{◌≡◌, ◌∙◌, ◌*◌, sym, subst, arith, ap, ⊎_elim, length}
use Rattle.matrix_u32.specs.Matrix.{IsWhole}
use Rattle.digit_pack.proofs.WiderRows.{widened_same, length-widened}
use Rattle.digit_pack.proofs.store.FlatDigitStore.grow.Goals as goal

pub returns-then-from-cols-clause-grown : goal.returns-then-from-cols-clause-grown
returns-then-from-cols-clause-grown c =
    let whole : IsWhole c.args.self.now = subst IsWhole c.self.view_is c.rows-rows.ensures.whole in
    sym (widened_same c.args.self.now c.args.cols whole (sym c.if-from-cols.true ∙ c.cols-from.ensures ∙ ap (λ m. m.cols) c.self.view_is))

-- the new words are as many as they should be
pub returns-in_err-self-inside-clause-cause : goal.returns-in_err-self-inside-clause-cause
returns-in_err-self-inside-clause-cause c =
    let count : length c.in-Ok.words.items ≡ c.rows-rows.result * c.args.cols = ap length c.in-Ok.ensures ∙ length-widened _ c.args.cols in
    ⊎_elim (λ large. absurd (omega (arith, c.in_ok-judge_size.ensures.fits, large.1))) (λ wrong. absurd (wrong.2 count)) c.in_err-self-inside.ensures.refused
