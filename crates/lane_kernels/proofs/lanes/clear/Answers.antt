use Rattle.std.proofs.Common.{◌≡◌, ◌<◌, ◌∙◌, inl, inr, arith, length, replicate}
use Rattle.std.proofs.lemmas.Bool.{cases_lt}
use Rattle.std.proofs.lemmas.Simd.{get_or-replicate}
use Rattle.matrix_u32.proofs.Rows.{length-written_row, written_row-same, written_row-other, zero_matrix_is}
use Rattle.lane_kernels.proofs.lanes.clear.Goals as goal

pub loop-i-preserved : goal.loop-i-preserved
loop-i-preserved c =
    let m = c.loop-i.m in
    let i = c.loop-i.i in
    let was = c.loop-i.invariant in
    let below : i < m.rows = omega arith in
    let new : c.fill.new.self ≡ replicate (length c.row_mut.result.now) 0 = c.fill.ensures.after (λ y h. h) in
    let long : length c.fill.new.self ≡ m.cols = omega arith in
    record {
      rows = was.rows;
      cols = was.cols;
      whole = length-written_row m i c.fill.new.self was.whole below long;
      done = λ p q hp hq. elim (cases_lt p i) [
        | inl lt ↦ written_row-other m i c.fill.new.self was.whole below long p q (omega arith) hq ∙ was.done p q lt hq
        | inr le ↦ let e : p ≡ i = omega arith in
            rw e (written_row-same m i c.fill.new.self was.whole below long q hq ∙ rw new (get_or-replicate (length c.row_mut.result.now) q 0 0 (omega arith)))
      ];
    }

pub returns : goal.returns
returns c =
    let was = c.loop-i.invariant in
    zero_matrix_is c.loop-i.m c.args.m.now.rows c.args.m.now.cols was.rows was.cols was.whole
    (λ p q hp hq. was.done p q (omega arith) (omega arith))
