use Rattle.std.proofs.Common.{◌≡◌, ℕ, List, ◌*◌, ◌<◌, ◌^◌, ap, sym, subst, ◌∙◌, length}
use Rattle.std.specs.Prelude.{All}
use Rattle.matrix_u32.specs.Matrix.{times_vector}
use Rattle.lane_kernels.specs.Packed.{packed_cols, unpacked}
use Rattle.digit_pack.proofs.Triples.{count_packed, words_small}
use Rattle.digit_pack.proofs.packed3.PackedDigitsDigitStore.mul_two.Goals as goal

pub packed_mul_two-requires-clause-rows_fit : goal.packed_mul_two-requires-clause-rows_fit
packed_mul_two-requires-clause-rows_fit g c =
    let outs : length c.args.x_out.now ≡ c.self.inside.rows = c.requires.x_room ∙ sym (ap (λ m. m.rows) c.self.view_is) in
    ap length c.deref.ensures.value ∙ count_packed c.self.inside.rows c.self.inside.cols c.self.inside.words.items c.self.invariant.0
    ∙ ap (λ n. n * packed_cols c.self.inside.cols) (sym outs)

pub packed_mul_two-requires-clause-three_digits : goal.packed_mul_two-requires-clause-three_digits
packed_mul_two-requires-clause-three_digits g c =
    subst (All (λ w. w < 2 ^ 30)) (sym c.deref.ensures.value) (words_small c.self.inside.rows c.self.inside.cols c.self.inside.words.items c.self.invariant.0)

pub returns-clause-x : goal.returns-clause-x
returns-clause-x g c =
    let outs : length c.args.x_out.now ≡ c.self.inside.rows = c.requires.x_room ∙ sym (ap (λ m. m.rows) c.self.view_is) in
    c.packed_mul_two.ensures.x
    ∙ ap (λ n. times_vector (unpacked n c.self.inside.cols c.deref.result.now) c.args.x.now) outs
    ∙ ap (λ (ws : List ℕ). times_vector (unpacked c.self.inside.rows c.self.inside.cols ws) c.args.x.now) c.deref.ensures.value
    ∙ ap (λ m. times_vector m c.args.x.now) c.self.view_is

pub returns-clause-y : goal.returns-clause-y
returns-clause-y g c =
    let outs : length c.args.x_out.now ≡ c.self.inside.rows = c.requires.x_room ∙ sym (ap (λ m. m.rows) c.self.view_is) in
    c.packed_mul_two.ensures.y
    ∙ ap (λ n. times_vector (unpacked n c.self.inside.cols c.deref.result.now) c.args.y.now) outs
    ∙ ap (λ (ws : List ℕ). times_vector (unpacked c.self.inside.rows c.self.inside.cols ws) c.args.y.now) c.deref.ensures.value
    ∙ ap (λ m. times_vector m c.args.y.now) c.self.view_is
