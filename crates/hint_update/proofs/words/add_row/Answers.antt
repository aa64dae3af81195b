use Rattle.std.proofs.Common.{◌≡◌, ℕ, ◌-◌, ◌*◌, ◌/◌, ◌%◌, ◌^◌, ◌<◌, ◌∙◌, arith, ap, sym, subst, List, length}
use Rattle.std.specs.Prelude.{slice_index}
use Rattle.matrix_u32.specs.Sum.{sum_below}
use Rattle.matrix_u32.specs.Matrix.{WordMatrix, entry, row, plus_scaled}
use Rattle.matrix_u32.proofs.Rows.{row_index, length-row}
use Rattle.hint_update.specs.Words.{IsRowAdded, higher_row}
use Rattle.hint_update.proofs.Lowest.{IsHigherAt, higher_at, higher_row_added}
use Rattle.hint_update.proofs.words.add_row.Goals as goal

pub row-requires : goal.row-requires
row-requires g c =
    let step : ℕ = length c.args.changed.now.words.now.weights.items in
    let rows : ℕ = c.args.changed.now.words.now.higher.rows in
    let is : length c.deref-weights.result.now ≡ step = ap length c.deref-weights.ensures.value in
    let higher : 0 < c.args.i % step = subst (λ n. 0 < c.args.i % n) is (omega (arith, c.if-i-step-eq0.false)) in
    let at : IsHigherAt c.args.i step c.args.changed.now.count rows =
    higher_at c.args.i step c.args.changed.now.count rows c.requires.room.digits c.requires.row c.requires.words.whole c.requires.words.fit higher in
    subst (λ n. c.args.i - c.args.i / n - 1 < c.args.changed.now.words.now.products.rows) (sym is) (omega (arith, at.below, c.requires.room.products_rows))

pub returns-else-i-step-eq0-clause-added : goal.returns-else-i-step-eq0-clause-added
returns-else-i-step-eq0-clause-added g c =
    let i : ℕ = c.args.i in
    let step : ℕ = length c.args.changed.now.words.now.weights.items in
    let rows : ℕ = c.args.changed.now.words.now.higher.rows in
    let products : WordMatrix = c.args.changed.now.words.now.products in
    let changes : WordMatrix = c.args.changed.now.changes.now in
    let public : WordMatrix = c.args.changed.now.public.now in
    let is : length c.deref-weights.result.now ≡ step = ap length c.deref-weights.ensures.value in
    let higher : 0 < i % step = subst (λ n. 0 < i % n) is (omega (arith, c.if-i-step-eq0.false)) in
    let at : IsHigherAt i step c.args.changed.now.count rows =
    higher_at i step c.args.changed.now.count rows c.requires.room.digits c.requires.row c.requires.words.whole c.requires.words.fit higher in
    let h : ℕ = i - i / step - 1 in
    let inside : higher_row step h < changes.rows = omega (arith, at.source, c.requires.row, c.requires.rows) in
    let words : (q : ℕ) → q < public.cols → slice_index (row products h) q ≡ sum_below public.rows (λ k. entry changes i k * entry public k q) % 2 ^ 32 = λ q l.
    row_index products h q (omega (arith, l, c.requires.room.products_cols))
    ∙ c.requires.products h q (omega (arith, at.below, c.requires.room.products_rows)) inside l
    ∙ ap (λ x. sum_below public.rows (λ k. entry changes x k * entry public k q) % 2 ^ 32) at.source in
    let lent : c.row.result.now ≡ row products h = c.row.ensures.value ∙ ap (λ n. row products (i - i / n - 1)) is in
    subst (λ words. IsRowAdded c.args.out.now words changes public i)
    (sym (c.add_scaled.ensures ∙ ap (λ (xs : List ℕ). plus_scaled c.args.out.now xs 1) lent))
    (higher_row_added c.args.out.now (row products h) changes public i c.requires.out (length-row products h ∙ c.requires.room.products_cols) words)
