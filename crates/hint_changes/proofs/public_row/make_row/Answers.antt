use Rattle.std.proofs.Common.{arith, ap, ◌∙◌, ◌≡◌, ℕ, ◌+◌, ◌*◌, ◌<◌, ◌==◌, if◌then◌else◌, List, length}
use Rattle.std.specs.Prelude.{slice_index}
use Rattle.matrix_u32.specs.Matrix.{WordMatrix, entry, matrix_of}
use Rattle.matrix_u32.proofs.Products.{at-list_of, length-list_of}
use Rattle.matrix_u32.proofs.Changes.{same-matrix_of}
use Rattle.matrix_u32.proofs.Rows.{if_here, written_row_is}
use Rattle.seed_expand.specs.Words.{word, source_word}
use Rattle.hint_changes.proofs.public_row.make_row.Goals as goal

pub returns : goal.returns
returns c =
    let m : WordMatrix = c.args.words.now in
    let n : ℕ = m.cols in
    let column : ℕ = c.args.column in
    let seed : List ℕ = c.args.seed.now in
    let out : List ℕ = c.fill_words.new.out in
    let count : ℕ = length c.row_mut.result.now in
    let long : length out ≡ n = ap length c.fill_words.ensures.words ∙ length-list_of count (source_word c.at.result) ∙ c.row_mut.ensures.count in
    let at : (j : ℕ) → j < n → slice_index out j ≡ word seed 0 (column * n + j) = λ j h.
    ap (λ (x : List ℕ). slice_index x j) c.fill_words.ensures.words
    ∙ at-list_of count (source_word c.at.result) j (omega (arith, h, c.row_mut.ensures.count))
    ∙ ap (λ s. source_word s j) c.at.ensures
    ∙ c.source_gives_words.ensures seed 0 (column * c.cols.result) j
    ∙ ap (λ y. word seed 0 (column * y + j)) c.cols.ensures in
    written_row_is m 0 out c.rows.ensures.whole (omega (arith, c.requires.row)) long
    ∙ ap (λ rows. matrix_of rows n (λ r j. if r == 0 then slice_index out j else entry m r j)) c.requires.row
    ∙ same-matrix_of 1 n (λ r j. if r == 0 then slice_index out j else entry m r j) (λ r j. word seed 0 ((column + r) * n + j)) (λ r j p q.
    let zero : r ≡ 0 = omega (arith, p) in
    let here : column ≡ column + r = omega (arith, zero) in
    if_here r 0 (slice_index out j) (entry m r j) zero ∙ at j q ∙ ap (λ y. word seed 0 (y * n + j)) here)
