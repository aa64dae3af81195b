use Rattle.std.proofs.Common.{◌≡◌, ℕ, ◌<◌, ◌∙◌, inl, inr, arith, length, replicate}
use Rattle.std.proofs.lemmas.Bool.{cases_lt}
use Rattle.std.proofs.lemmas.Simd.{get_or-replicate}
use Rattle.matrix_u32.specs.Matrix.{WordMatrix}
use Rattle.matrix_u32.proofs.Rows.{length-written_row, written_row-same, written_row-other}
use Rattle.hint_update.proofs.rows.clear_rows.Goals as goal

pub loop-k-preserved : goal.loop-k-preserved
loop-k-preserved c =
    let m : WordMatrix = c.loop-k.m in
    let r : ℕ = c.loop-k.k in
    let was = c.loop-k.invariant in
    let below : r < m.rows = omega arith in
    let new : c.fill.new.self ≡ replicate (length c.row_mut.result.now) 0 = c.fill.ensures.after (λ y h. h) in
    let long : length c.fill.new.self ≡ m.cols = omega arith in
    record {
      rows = was.rows;
      cols = was.cols;
      whole = length-written_row m r c.fill.new.self was.whole below long;
      kept = λ p q hp hq.
          written_row-other m r c.fill.new.self was.whole below long p q (omega arith) (omega (arith, hq, was.cols)) ∙ was.kept p q hp hq;
      cleared = λ p q low hp hq. elim (cases_lt p r) [
        | inl lt ↦ written_row-other m r c.fill.new.self was.whole below long p q (omega arith) (omega (arith, hq, was.cols)) ∙ was.cleared p q low lt hq
        | inr le ↦ let e : p ≡ r = omega arith in
            rw e (written_row-same m r c.fill.new.self was.whole below long q (omega (arith, hq, was.cols))
            ∙ rw new (get_or-replicate (length c.row_mut.result.now) q 0 0 (omega arith)))
      ];
    }
