use Rattle.std.proofs.Common.{◌≡◌, ◌∙◌, ap, sym, subst, ℕ, List, length}
use Rattle.std.proofs.lemmas.List.{with_items_is}
use Rattle.std.specs.Vec.{with_items}
use Rattle.matrix_u32.specs.Matrix.{WordMatrix}
use Rattle.lane_kernels.specs.Packed.{unpacked}
use Rattle.digit_pack.specs.Columns.{WritesColumn}
use Rattle.digit_pack.specs.Packed.{IsPacked}
use Rattle.digit_pack.proofs.packed3.PackedDigitsDigitStore.swap_digits.Goals as goal

pub invariant_of-self : goal.invariant_of-self
invariant_of-self g c =
    let words : List ℕ = c.swap_packed.new.words in
    let same : (with_items c.self.inside.words words).items ≡ words =
    with_items_is c.self.inside.words words (c.swap_packed.ensures.words ∙ ap length c.deref_mut.ensures.value ∙ sym c.self.inside.words.ok.0) in
    (subst (IsPacked c.self.inside.rows c.self.inside.cols) (sym same) c.swap_packed.ensures.packed, c.self.invariant.1)

pub returns-clause-written : goal.returns-clause-written
returns-clause-written g c =
    let rows : ℕ = c.self.inside.rows in
    let cols : ℕ = c.self.inside.cols in
    let words : List ℕ = c.swap_packed.new.words in
    let same : (with_items c.self.inside.words words).items ≡ words =
    with_items_is c.self.inside.words words (c.swap_packed.ensures.words ∙ ap length c.deref_mut.ensures.value ∙ sym c.self.inside.words.ok.0) in
    let before : unpacked rows cols c.deref_mut.result.now ≡ c.args.self.now = ap (unpacked rows cols) c.deref_mut.ensures.value ∙ c.self.view_is in
    let new : WordMatrix = unpacked rows cols (with_items c.self.inside.words words).items in
    subst (λ m. WritesColumn m new c.args.first c.args.j c.args.others.now) before
    (subst (λ (ws : List ℕ). WritesColumn (unpacked rows cols c.deref_mut.result.now) (unpacked rows cols ws) c.args.first c.args.j c.args.others.now) (sym same)
    c.swap_packed.ensures.written)
