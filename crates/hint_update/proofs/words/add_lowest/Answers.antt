use Rattle.std.proofs.Common.{◌≡◌, ℕ, ◌+◌, ◌-◌, ◌*◌, ◌/◌, ◌%◌, ◌^◌, ◌<◌, ◌≤◌, ◌∙◌, arith, ap, sym, subst, List, length, take, drop}
use Rattle.std.proofs.lemmas.List.{get_or-take, get_or-drop}
use Rattle.std.proofs.lemmas.Simd.{length-chunk}
use Rattle.std.specs.Prelude.{slice_index}
use Rattle.matrix_u32.specs.Sum.{sum_below}
use Rattle.matrix_u32.specs.Matrix.{WordMatrix, entry, plus_scaled}
use Rattle.matrix_u32.specs.Blocks.{plus_rows}
use Rattle.hint_update.specs.Words.{IsRowAdded, higher_row}
use Rattle.hint_update.proofs.Lowest.{IsWordAt, word_at, higher_source, lowest_row_added, whole_row_added}
use Rattle.hint_update.proofs.words.add_lowest.Goals as goal

-- the weights of higher digits
rest_long : (weights : List ℕ) → 1 < length weights → length (take (length weights - 1) (drop 1 weights)) ≡ length weights - 1
rest_long weights some = length-chunk 1 (length weights - 1) weights (omega (arith, some)) ∙ omega arith

pub add_rows-requires-clause-inside : goal.add_rows-requires-clause-inside
add_rows-requires-clause-inside g c =
    let weights : List ℕ = c.args.changed.now.words.now.weights.items in
    let step : ℕ = length weights in
    let at : IsWordAt c.args.i step c.args.changed.now.count c.args.changed.now.words.now.higher.rows =
    word_at c.args.i step c.args.changed.now.count c.args.changed.now.words.now.higher.rows c.requires.room.digits c.requires.row c.requires.words.whole c.requires.words.fit
    c.requires.lowest in
    let fit : c.args.i - c.args.i / step + length (take (step - 1) (drop 1 weights)) ≤ c.args.changed.now.words.now.products.rows =
    omega (arith, rest_long weights c.requires.room.digits, at.fit, c.requires.room.products_rows) in
    subst (λ (xs : List ℕ). c.args.i - c.args.i / length xs + length (take (length xs - 1) (drop 1 xs)) ≤ c.args.changed.now.words.now.products.rows)
    (sym c.deref-weights.ensures.value) fit

pub returns-in-Some-clause-added : goal.returns-in-Some-clause-added
returns-in-Some-clause-added g c =
    let i : ℕ = c.args.i in
    let weights : List ℕ = c.args.changed.now.words.now.weights.items in
    let step : ℕ = length weights in
    let m : ℕ = step - 1 in
    let rest : List ℕ = take m (drop 1 weights) in
    let common : List ℕ = c.args.changed.now.words.now.common.items in
    let combined : List ℕ = c.args.changed.now.words.now.combined.items in
    let products : WordMatrix = c.args.changed.now.words.now.products in
    let changes : WordMatrix = c.args.changed.now.changes.now in
    let public : WordMatrix = c.args.changed.now.public.now in
    let h : ℕ = i - i / step in
    let factor : ℕ = c.in-Some.factor in
    let at : IsWordAt i step c.args.changed.now.count c.args.changed.now.words.now.higher.rows =
    word_at i step c.args.changed.now.count c.args.changed.now.words.now.higher.rows c.requires.room.digits c.requires.row c.requires.words.whole c.requires.words.fit
    c.requires.lowest in
    let long : length rest ≡ m = rest_long weights c.requires.room.digits in
    let are : (s : ℕ) → s < m → slice_index rest s ≡ slice_index weights (1 + s) = λ s l. get_or-take m (drop 1 weights) s 0 l ∙ get_or-drop 1 weights s 0 in
    let made : (s q : ℕ) → s < m → q < public.cols →
    entry products (h + s) q ≡ sum_below public.rows (λ k. entry changes (i + (1 + s)) k * entry public k q) % 2 ^ 32 = λ s q l p.
    let source : higher_row step (h + s) ≡ i + (1 + s) =
    ap (λ x. higher_row step (x + s)) at.index ∙ higher_source step (i / step) s (omega (arith, l)) ∙ ap (λ x. x + (1 + s)) (sym at.start) in
    let inside : higher_row step (h + s) < changes.rows = omega (arith, source, l, at.within, c.requires.rows) in
    c.requires.products (h + s) q (omega (arith, l, at.fit, c.requires.room.products_rows)) inside p
    ∙ ap (λ x. sum_below public.rows (λ k. entry changes x k * entry public k q) % 2 ^ 32) source in
    let done : IsRowAdded c.args.out.now (plus_scaled (plus_rows c.args.out.now m (λ s. slice_index rest s) products h) combined factor) changes public i =
    lowest_row_added c.args.out.now weights rest common combined products changes public i h m c.args.changed.now.n factor (omega (arith, c.requires.room.digits)) are
    c.requires.room.lowest c.in-Some.ensures.follows c.requires.cleared c.requires.out c.requires.combined made in
    let first : c.add_rows.new.out ≡ plus_rows c.args.out.now m (λ s. slice_index rest s) products h =
    c.add_rows.ensures
    ∙ ap (λ (xs : List ℕ). plus_rows c.args.out.now (length (take (length xs - 1) (drop 1 xs))) (λ s. slice_index (take (length xs - 1) (drop 1 xs)) s) products
    (i - i / length xs)) c.deref-weights.ensures.value
    ∙ ap (λ n. plus_rows c.args.out.now n (λ s. slice_index rest s) products h) long in
    let last : c.add_scaled.new.out ≡ plus_scaled (plus_rows c.args.out.now m (λ s. slice_index rest s) products h) combined factor =
    c.add_scaled.ensures ∙ ap (λ (xs : List ℕ). plus_scaled xs c.deref.result.now factor) first
    ∙ ap (λ (xs : List ℕ). plus_scaled (plus_rows c.args.out.now m (λ s. slice_index rest s) products h) xs factor) c.deref.ensures.value in
    subst (λ words. IsRowAdded c.args.out.now words changes public i) (sym last) done

pub returns-in_default-clause-added : goal.returns-in_default-clause-added
returns-in_default-clause-added g c =
    subst (λ words. IsRowAdded c.args.out.now words c.args.changed.now.changes.now c.args.changed.now.public.now c.args.i)
    (sym (c.add_rows-in_default.ensures
    ∙ ap (λ (xs : List ℕ). plus_rows c.args.out.now (length xs) (λ k. slice_index xs k) c.args.changed.now.public.now 0) c.row.ensures.value))
    (whole_row_added c.args.out.now c.args.changed.now.changes.now c.args.changed.now.public.now c.args.i c.requires.changes_cols)
