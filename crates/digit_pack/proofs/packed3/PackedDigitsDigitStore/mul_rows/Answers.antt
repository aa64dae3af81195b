use Rattle.std.proofs.Common.{◌≡◌, ℕ, List, ◌+◌, ◌≤◌, ap, sym, subst, ◌∙◌, length, arith}
use Rattle.matrix_u32.specs.Matrix.{WordMatrix}
use Rattle.lane_kernels.specs.Packed.{packed_cols, unpacked}
use Rattle.digit_pack.specs.Packed.{IsPacked}
use Rattle.digit_pack.specs.Products.{rows_times_vector}
use Rattle.digit_pack.proofs.packed3.PackedDigitsDigitStore.mul_rows.Goals as goal

pub words_of_rows-words-requires-clause-packed : goal.words_of_rows-words-requires-clause-packed
words_of_rows-words-requires-clause-packed g c =
    subst (IsPacked c.self.inside.rows c.self.inside.cols) (sym c.deref.ensures.value) c.self.invariant.0

pub returns : goal.returns
returns g c =
    c.packed_mul_vec.ensures
    ∙ c.words_of_rows-words.ensures.products c.args.x.now
    ∙ ap (λ (ws : List ℕ). rows_times_vector (unpacked c.self.inside.rows c.self.inside.cols ws) c.args.x.now c.args.first (length c.args.out.now)) c.deref.ensures.value
    ∙ ap (λ (m : WordMatrix). rows_times_vector m c.args.x.now c.args.first (length c.args.out.now)) c.self.view_is
