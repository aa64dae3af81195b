use Rattle.std.proofs.Common.{◌≡◌, ℕ, List, ap, sym, subst, ◌∙◌, length}
use Rattle.matrix_u32.specs.Matrix.{WordMatrix}
use Rattle.lane_kernels.specs.Packed.{unpacked}
use Rattle.digit_pack.specs.Packed.{IsPacked}
use Rattle.digit_pack.specs.Products.{rows_times_vector}
use Rattle.digit_pack.proofs.packed3.PackedDigitsDigitStore.mul_two_rows.Goals as goal

pub returns-clause-x : goal.returns-clause-x
returns-clause-x g c =
    c.packed_mul_two.ensures.x
    ∙ c.words_of_rows-words.ensures.products c.args.x.now
    ∙ ap (λ (ws : List ℕ). rows_times_vector (unpacked c.self.inside.rows c.self.inside.cols ws) c.args.x.now c.args.first (length c.args.x_out.now)) c.deref.ensures.value
    ∙ ap (λ (m : WordMatrix). rows_times_vector m c.args.x.now c.args.first (length c.args.x_out.now)) c.self.view_is

pub returns-clause-y : goal.returns-clause-y
returns-clause-y g c =
    c.packed_mul_two.ensures.y
    ∙ c.words_of_rows-words.ensures.products c.args.y.now
    ∙ ap (λ (ws : List ℕ). rows_times_vector (unpacked c.self.inside.rows c.self.inside.cols ws) c.args.y.now c.args.first (length c.args.x_out.now)) c.deref.ensures.value
    ∙ ap (λ (m : WordMatrix). rows_times_vector m c.args.y.now c.args.first (length c.args.x_out.now)) c.self.view_is
