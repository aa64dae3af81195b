use Rattle.std.proofs.Common.{◌≡◌, ℕ, ◌<◌, arith, ap, ◌∙◌, sym, inl, inr, List, length}
use Rattle.std.proofs.lemmas.Bool.{cases_eq}
use Rattle.std.specs.Prelude.{slice_index}
use Rattle.matrix_u32.specs.Matrix.{WordMatrix, entry, row, written_row}
use Rattle.matrix_u32.proofs.Rows.{row_index, length-row, length-written_row, written_row-same, written_row-other}
use Rattle.hint_update.proofs.rows.copy_rows.Goals as goal

pub loop-k-preserved : goal.loop-k-preserved
loop-k-preserved c =
    let to : WordMatrix = c.loop-k.to in
    let from : WordMatrix = c.args.from.now in
    let listed : List ℕ = c.args.listed.now in
    let r : ℕ = c.loop-k.k in
    let words : List ℕ = c.copy_from_slice.new.self in
    let is : words ≡ row from (slice_index listed r) = c.copy_from_slice.ensures.after ∙ c.row.ensures.value in
    let inside : r < to.rows = omega (arith, c.loop-k-test.true, c.loop-k.auto.k-end, c.loop-k.invariant.rows, c.requires.room) in
    let wide : to.cols ≡ from.cols = c.loop-k.invariant.cols ∙ c.requires.cols in
    let long : length words ≡ to.cols = ap length is ∙ length-row from (slice_index listed r) ∙ sym wide in
    record {
      rows = c.loop-k.invariant.rows;
      cols = c.loop-k.invariant.cols;
      whole = length-written_row to r words c.loop-k.invariant.whole inside long;
      copied = λ k q l p. elim (cases_eq k r) [
        | inl e ↦
            ap (λ k. entry (written_row to r words) k q) e
            ∙ written_row-same to r words c.loop-k.invariant.whole inside long q (omega (arith, p, wide))
            ∙ ap (λ (xs : List ℕ). slice_index xs q) is ∙ row_index from (slice_index listed r) q p
            ∙ ap (λ k. entry from (slice_index listed k) q) (sym e)
        | inr apart ↦
            written_row-other to r words c.loop-k.invariant.whole inside long k q apart (omega (arith, p, wide))
            ∙ c.loop-k.invariant.copied k q (omega (arith, l, apart)) p
      ];
    }
