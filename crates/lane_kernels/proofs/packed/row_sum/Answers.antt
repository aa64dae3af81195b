use Rattle.std.proofs.Common.{refl, ◌∙◌, sym}
use Rattle.matrix_u32.proofs.Sums.{sum_below_none}
use Rattle.lane_kernels.proofs.PackedSums.{lanes_more, lanes_end}
use Rattle.lane_kernels.proofs.packed.row_sum.Goals as goal

pub loop-i-init : goal.loop-i-init
loop-i-init c = rw sum_below_none refl

pub loop-i-preserved : goal.loop-i-preserved
loop-i-preserved c =
    let x = c.args.x.now in
    lanes_more _ _ _ c.loop-i.sum c.args.words.now x.a.now x.b.now x.c.now _ _ _ _ _ c.loop-i-test.true c.as_chunks-2.ensures.front_len c.loop-i.auto.sum.0
    (sym c.requires.first) refl (c.requires.second ∙ sym c.requires.first) (c.requires.third ∙ sym c.requires.first)
    c.as_chunks.ensures.front c.as_chunks-2.ensures.front c.as_chunks-3.ensures.front c.as_chunks-4.ensures.front c.products-sum.ensures c.loop-i.invariant

pub returns : goal.returns
returns c =
    let x = c.args.x.now in
    lanes_end _ _ _ c.loop-i.sum c.args.words.now x.a.now x.b.now x.c.now _ c.loop-i-test.false c.loop-i.auto.i-end c.as_chunks-2.ensures.front_len
    (sym c.requires.first) c.row_total.ensures c.loop-i.invariant
