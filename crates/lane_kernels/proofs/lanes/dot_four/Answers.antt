use Rattle.std.proofs.Common.{◌/◌, ◌∷◌, length, arith, refl, ap₂}
use Rattle.matrix_u32.proofs.Sums.{sum_below_none}
use Rattle.lane_kernels.proofs.LaneSums.{dot_more, dot_end}
use Rattle.lane_kernels.proofs.lanes.dot_four.Goals as goal

pub loop-i-init : goal.loop-i-init
loop-i-init c = simp sum_below_none (record { first = refl; second = refl; third = refl; fourth = refl })

pub loop-i-preserved : goal.loop-i-preserved
loop-i-preserved c =
    let n = length c.args.x.now / 8 in
    let x = c.args.x.now in
    let i = c.loop-i.i in
    let so_far = c.loop-i.invariant in
    rw (
      c.as_chunks.ensures.front,
      c.as_chunks-2.ensures.front,
      c.as_chunks-3.ensures.front,
      c.as_chunks-4.ensures.front,
      c.as_chunks-5.ensures.front,
      c.requires.first,
      c.requires.second,
      c.requires.third,
      c.requires.fourth,
    )
    (record {
      first = dot_more 8 i n c.loop-i.a c.args.p.now x (omega arith) (omega arith) (omega arith) (omega arith) so_far.first;
      second = dot_more 8 i n c.loop-i.b c.args.q.now x (omega arith) (omega arith) (omega arith) (omega arith) so_far.second;
      third = dot_more 8 i n c.loop-i.c c.args.r.now x (omega arith) (omega arith) (omega arith) (omega arith) so_far.third;
      fourth = dot_more 8 i n c.loop-i.d c.args.s.now x (omega arith) (omega arith) (omega arith) (omega arith) so_far.fourth;
    })

pub returns : goal.returns
returns c =
    let n = length c.args.x.now / 8 in
    let x = c.args.x.now in
    let i = c.loop-i.i in
    let so_far = c.loop-i.invariant in
    let xd = c.as_chunks-5.ensures.back in
    ap₂ ◌∷◌ (dot_end 8 n i c.loop-i.a c.args.p.now x _ _ _ (omega arith) (omega arith) c.requires.first
    (rw c.requires.first at c.as_chunks.ensures.back) xd c.dot.ensures so_far.first)
    (ap₂ ◌∷◌ (dot_end 8 n i c.loop-i.b c.args.q.now x _ _ _ (omega arith) (omega arith) c.requires.second
    (rw c.requires.second at c.as_chunks-2.ensures.back) xd c.dot-2.ensures so_far.second)
    (ap₂ ◌∷◌ (dot_end 8 n i c.loop-i.c c.args.r.now x _ _ _ (omega arith) (omega arith) c.requires.third
    (rw c.requires.third at c.as_chunks-3.ensures.back) xd c.dot-3.ensures so_far.third)
    (ap₂ ◌∷◌ (dot_end 8 n i c.loop-i.d c.args.s.now x _ _ _ (omega arith) (omega arith) c.requires.fourth
    (rw c.requires.fourth at c.as_chunks-4.ensures.back) xd c.dot-4.ensures so_far.fourth)
    refl)))
