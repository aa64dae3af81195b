use Rattle.std.proofs.Common.{◌≡◌, ℕ, ◌<◌, ◌∙◌, arith, ap, sym, subst, inl, inr, List, length}
use Rattle.std.proofs.lemmas.Bool.{cases_eq}
use Rattle.std.specs.Prelude.{slice_index}
use Rattle.matrix_u32.specs.Matrix.{WordMatrix, IsWhole, entry, row, written_row}
use Rattle.matrix_u32.proofs.Rows.{row_index, length-row, length-written_row, written_row-same, written_row-other}
use Rattle.hint_update.specs.Words.{higher_row}
use Rattle.hint_update.proofs.words.put_higher.Goals.{then-source-rows, else-source-rows}
use Rattle.hint_update.proofs.words.put_higher.Goals as goal

pub loop-h-preserved : goal.loop-h-preserved
loop-h-preserved c =
    let was = c.loop-h.invariant in
    let before : WordMatrix = c.loop-h.higher in
    let changes : WordMatrix = c.args.changes.now in
    let r : ℕ = c.loop-h.h in
    let step : ℕ = c.args.step in
    let here : r < before.rows = omega (arith, c.loop-h-test.true, c.loop-h.auto.h-end, c.rows-h-end.ensures.value, was.rows) in
    let wide : before.cols ≡ changes.cols = was.cols ∙ c.requires.cols in
    elim c.if-source-rows.branch [
      | then-source-rows w ↦
          let words : List ℕ = w.copy_from_slice.new.self in
          let is : words ≡ row changes (higher_row step r) = w.copy_from_slice.ensures.after ∙ w.row.ensures.value in
          let long : length words ≡ before.cols = ap length is ∙ length-row changes (higher_row step r) ∙ sym wide in
          let new : c.if-source-rows.higher ≡ written_row before r words = w.higher-is in
          record {
            rows = ap (λ (m : WordMatrix). m.rows) new ∙ was.rows;
            cols = ap (λ (m : WordMatrix). m.cols) new ∙ was.cols;
            whole = subst IsWhole (sym new) (length-written_row before r words was.whole here long);
            copied = λ h k l p q. ap (λ m. entry m h k) new ∙ elim (cases_eq h r) [
              | inl e ↦
                  ap (λ h. entry (written_row before r words) h k) e
                  ∙ written_row-same before r words was.whole here long k (omega (arith, q, wide))
                  ∙ ap (λ (xs : List ℕ). slice_index xs k) is ∙ row_index changes (higher_row step r) k q
                  ∙ ap (λ h. entry changes (higher_row step h) k) (sym e)
              | inr apart ↦
                  written_row-other before r words was.whole here long h k apart (omega (arith, q, wide))
                  ∙ was.copied h k (omega (arith, l, apart)) p q
            ];
          }
      | else-source-rows w ↦
          let new : c.if-source-rows.higher ≡ before = w.higher-is in
          record {
            rows = ap (λ (m : WordMatrix). m.rows) new ∙ was.rows;
            cols = ap (λ (m : WordMatrix). m.cols) new ∙ was.cols;
            whole = subst IsWhole (sym new) was.whole;
            copied = λ h k l p q. ap (λ m. entry m h k) new ∙ elim (cases_eq h r) [
              | inl e ↦
                  let beyond : higher_row step r < changes.rows = subst (λ h. higher_row step h < changes.rows) e p in
                  absurd (omega (arith, beyond, w.if-source-rows.false, c.rows.ensures.value))
              | inr apart ↦ was.copied h k (omega (arith, l, apart)) p q
            ];
          }
    ]
