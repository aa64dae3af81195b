use Rattle.std.proofs.Common.{◌≡◌, ℕ, ◌<◌, ◌≤◌, arith, ap, ◌∙◌, sym, List, length, slice_index, replicate, take}
use Rattle.std.proofs.lemmas.List.{length-take-le, get_or-take}
use Rattle.std.proofs.lemmas.Simd.{get_or-replicate}
use Rattle.matrix_u32.specs.Matrix.{WordMatrix, plus_scaled}
use Rattle.matrix_u32.specs.Blocks.{plus_rows}
use Rattle.hint_update.proofs.Lowest.{sums_are_none}
use Rattle.hint_update.proofs.words.factor_of_word.Goals as goal

pub returns-then-are_zero-clause-follows : goal.returns-then-are_zero-clause-follows
returns-then-are_zero-clause-follows g c =
    let n : ℕ = c.args.n in
    let zeros : List ℕ = c.fill.new.self in
    let weights : List ℕ = c.args.words.now.weights.items in
    let common : List ℕ = c.args.words.now.common.items in
    let changes : WordMatrix = c.args.changes.now in
    let factor : ℕ = c.match-get.factor in
    let last : List ℕ = c.add_scaled.new.out in
    let new : zeros ≡ replicate (length c.args.sums.now) 0 = c.fill.ensures.after (λ y h. h) in
    let rows : c.add_rows.new.out ≡ plus_rows zeros (length weights) (λ t. slice_index weights t) changes c.args.i =
    c.add_rows.ensures ∙ ap (λ (xs : List ℕ). plus_rows zeros (length xs) (λ t. slice_index xs t) changes c.args.i) c.deref.ensures.value in
    let is : last ≡ plus_scaled (plus_rows zeros (length weights) (λ t. slice_index weights t) changes c.args.i) common factor =
    c.add_scaled.ensures ∙ ap (λ (xs : List ℕ). plus_scaled xs c.deref-2.result.now factor) rows
    ∙ ap (λ (xs : List ℕ). plus_scaled (plus_rows zeros (length weights) (λ t. slice_index weights t) changes c.args.i) xs factor) c.deref-2.ensures.value in
    let wide : n ≤ length zeros = omega (arith, c.requires.few, c.requires.sums, c.fill.ensures.len) in
    let clear : (k : ℕ) → k < length zeros → slice_index zeros k ≡ 0 = λ k l.
    rw new (get_or-replicate (length c.args.sums.now) k 0 0 (omega (arith, l, c.fill.ensures.len))) in
    let none : (k : ℕ) → k < n → slice_index last k ≡ 0 = λ k l.
    let cut : length (take n last) ≡ n = length-take-le n last (omega (arith, c.requires.few, c.requires.sums, c.fill.ensures.len, c.add_rows.auto.out, c.add_scaled.auto.out)) in
    sym (get_or-take n last k 0 l) ∙ c.are_zero.ensures.0 c.if-are_zero.true k (omega (arith, l, cut)) in
    sums_are_none zeros weights common changes c.args.i n factor wide clear (λ k l. ap (λ (xs : List ℕ). slice_index xs k) (sym is) ∙ none k l)
