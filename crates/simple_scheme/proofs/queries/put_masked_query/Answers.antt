use Rattle.std.proofs.Common.{ap, ◌∙◌, ◌≡◌, ◌<◌, ℕ, ℤ, List, arith}
use Rattle.matrix_u32.specs.Matrix.{WordMatrix, column}
use Rattle.regev_core.specs.Encryption.{with_noise}
use Rattle.simple_scheme.specs.Simple.{query_noise}
use Rattle.simple_scheme.specs.Masks.{masks_of}
use Rattle.simple_scheme.proofs.MaskColumns.{masks-rows, masks-cols, masked_query}
use Rattle.simple_scheme.proofs.queries.put_masked_query.Goals as goal

pub returns : goal.returns
returns c = λ a1 first count made at.
    let seed : List ℕ = c.args.asked.now.seed.now in
    let number : ℕ = c.args.asked.now.number in
    let w : ℕ = c.args.layout.now.width in
    let words : List ℕ = column (masks_of a1 seed first count) c.args.c in
    let noise : c.draw_for-column.new.mask.noise ≡ query_noise seed number a1.rows =
    c.draw_for-column.ensures.noise
    ∙ ap (query_noise seed number) (omega (arith, c.requires.mask, c.requires.rows, masks-rows a1 c.args.masks.now seed first count made)) in
    let inside : c.args.c < count = omega (arith, c.requires.retrieval, masks-cols a1 c.args.masks.now seed first count made) in
    c.cover.ensures
    ∙ ap (λ xs. with_noise c.width.result xs c.draw_for-column.new.mask.noise c.draw_for-column.result)
    (c.put_column.ensures ∙ ap (λ (m : WordMatrix). column m c.args.c) made)
    ∙ ap (λ (e : List ℤ). with_noise c.width.result words e c.draw_for-column.result) noise
    ∙ ap (λ w. with_noise w words (query_noise seed number a1.rows) c.draw_for-column.result) c.width.ensures.value
    ∙ ap (λ p. with_noise w words (query_noise seed number a1.rows) p) c.draw_for-column.ensures.column
    ∙ masked_query c.args.layout.now a1 seed first count c.args.c number c.args.asked.now.i inside at
