use Rattle.std.proofs.Common.{arith, ap, sym, ◌∙◌, refl, ◌≡◌, ℕ, ◌+◌, ◌-◌, ◌*◌, ◌%◌, ◌<◌, ◌^◌, List, length}
use Rattle.std.specs.Prelude.{slice_index}
use Rattle.matrix_u32.specs.Matrix.{WordMatrix, entry, row, with_row, written_row, plus_scaled}
use Rattle.matrix_u32.proofs.Products.{length-list_of, at-list_of}
use Rattle.matrix_u32.proofs.Rows.{written_row_is, written_row-same, row_index, length-row}
use Rattle.hint_update.proofs.Follows.{row_follows, replaced_row_alone, reduced}
use Rattle.hint_update.proofs.update_simple.Goals as goal

pub returns-clause-follows : goal.returns-clause-follows
returns-clause-follows g c = λ d whole e p q is h.
    let small : c.args.old < 2 ^ 32 = omega arith in
    let k : ℕ = (c.args.new + (2 ^ 32 - c.args.old)) % 2 ^ 32 in
    let hint : WordMatrix = c.args.hint.now in
    let long : length c.add_difference.new.out ≡ hint.cols =
    ap length c.add_difference.ensures
    ∙ length-list_of (length c.row_mut.result.now) (λ j. (slice_index c.row_mut.result.now j + k * slice_index c.row.result.now j) % 2 ^ 32)
    ∙ c.row_mut.ensures.count in
    let words : c.add_difference.new.out ≡ plus_scaled (row hint c.args.row) (row c.args.a1.now c.args.col) k =
    c.add_difference.ensures ∙ ap (λ (x : List ℕ). plus_scaled x c.row.result.now k) c.row_mut.ensures.value
    ∙ ap (λ x. plus_scaled (row hint c.args.row) x k) c.row.ensures.value in
    written_row_is hint c.args.row c.add_difference.new.out c.rows-rows.ensures.whole c.requires.row long
    ∙ ap (λ words. with_row hint c.args.row words) words
    ∙ ap (λ m. with_row m c.args.row (plus_scaled (row m c.args.row) (row c.args.a1.now c.args.col) k)) h
    ∙ row_follows d c.args.a1.now c.args.row c.args.col c.args.old c.args.new k whole e p q is small refl

pub returns-clause-others : goal.returns-clause-others
returns-clause-others g c =
    let k : ℕ = (c.args.new + (2 ^ 32 - c.args.old)) % 2 ^ 32 in
    let hint : WordMatrix = c.args.hint.now in
    let long : length c.add_difference.new.out ≡ hint.cols =
    ap length c.add_difference.ensures
    ∙ length-list_of (length c.row_mut.result.now) (λ j. (slice_index c.row_mut.result.now j + k * slice_index c.row.result.now j) % 2 ^ 32)
    ∙ c.row_mut.ensures.count in
    let is : written_row hint c.args.row c.add_difference.new.out ≡ with_row hint c.args.row c.add_difference.new.out =
    written_row_is hint c.args.row c.add_difference.new.out c.rows-rows.ensures.whole c.requires.row long in
    is ∙ replaced_row_alone hint c.args.row c.add_difference.new.out c.requires.row ∙ ap (λ m. with_row hint c.args.row (row m c.args.row)) (sym is)

pub returns-clause-changed : goal.returns-clause-changed
returns-clause-changed g c = λ q h.
    let k : ℕ = (c.args.new + (2 ^ 32 - c.args.old)) % 2 ^ 32 in
    let hint : WordMatrix = c.args.hint.now in
    let a1 : WordMatrix = c.args.a1.now in
    let i : ℕ = c.args.row in
    let long : length c.add_difference.new.out ≡ hint.cols =
    ap length c.add_difference.ensures
    ∙ length-list_of (length c.row_mut.result.now) (λ j. (slice_index c.row_mut.result.now j + k * slice_index c.row.result.now j) % 2 ^ 32)
    ∙ c.row_mut.ensures.count in
    let words : c.add_difference.new.out ≡ plus_scaled (row hint i) (row a1 c.args.col) k =
    c.add_difference.ensures ∙ ap (λ (x : List ℕ). plus_scaled x c.row.result.now k) c.row_mut.ensures.value
    ∙ ap (λ x. plus_scaled (row hint i) x k) c.row.ensures.value in
    written_row-same hint i c.add_difference.new.out c.rows-rows.ensures.whole c.requires.row long q (omega (arith, c.requires.cols))
    ∙ ap (λ (x : List ℕ). slice_index x q) words
    ∙ at-list_of (length (row hint i)) (λ j. (slice_index (row hint i) j + k * slice_index (row a1 c.args.col) j) % 2 ^ 32) q
    (omega (arith, c.requires.cols, length-row hint i))
    ∙ ap (λ y. (y + k * slice_index (row a1 c.args.col) q) % 2 ^ 32) (row_index hint i q (omega (arith, c.requires.cols)))
    ∙ ap (λ y. (entry hint i q + k * y) % 2 ^ 32) (row_index a1 c.args.col q h)
    ∙ reduced (entry hint i q) (c.args.new + (2 ^ 32 - c.args.old)) (entry a1 c.args.col q)
