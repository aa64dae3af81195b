use Rattle.std.proofs.Common.{◌≡◌, ◌/◌, ◌*◌, length, arith, refl}
use Rattle.matrix_u32.proofs.Sums.{sum_below_none}
use Rattle.lane_kernels.proofs.LaneSums.{dot_more, dot_parts, lanes_total}
use Rattle.lane_kernels.proofs.lanes.dot.Goals as goal

pub loop-i-init : goal.loop-i-init
loop-i-init c = rw sum_below_none refl

pub loop-i-preserved : goal.loop-i-preserved
loop-i-preserved c =
    let n = length c.args.x.now / 8 in
    let same : length c.args.y.now / 8 ≡ n = omega arith in
    rw (c.as_chunks.ensures.front, c.as_chunks-2.ensures.front, same)
    (dot_more 8 c.loop-i.i n c.loop-i.sum c.args.x.now c.args.y.now (omega arith) (omega arith) (omega arith) (omega arith) c.loop-i.invariant)

pub returns : goal.returns
returns c =
    let n = length c.args.x.now / 8 in
    let same : length c.args.y.now / 8 ≡ n = omega arith in
    let all : c.loop-i.i ≡ n = omega arith in
    let e = lanes_total 0 c.loop-i.sum (omega arith) in
    let f = rw (c.as_chunks.ensures.back, c.as_chunks-2.ensures.back, same) at c.dot.ensures in
    let g = dot_parts (n * 8) c.args.x.now c.args.y.now (omega arith) c.requires in
    let so_far = rw all at c.loop-i.invariant in
    omega (arith, e, f, g, so_far)
