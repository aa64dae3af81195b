use Rattle.std.proofs.Common.{◌≡◌, ◌<◌, ◌/◌, ◌*◌, ◌+◌, [], length, arith}
use Rattle.lane_kernels.proofs.LaneSums.{chunk_at, four_more, four_end}
use Rattle.lane_kernels.proofs.two_rows.add_four_to_two.Goals as goal

pub loop-i-preserved : goal.loop-i-preserved
loop-i-preserved c =
    let a = c.args in
    let i = c.loop-i.i in
    let n = length a.p.now / 8 in
    let at = i * 8 in
    let next : (i + 1) * 8 ≡ at + 8 = omega arith in
    let below : i < n = omega arith in
    let same_q : length a.q.now / 8 ≡ n = omega arith in
    let same_r : length a.r.now / 8 ≡ n = omega arith in
    let same_s : length a.s.now / 8 ≡ n = omega arith in
    rw (
      c.as_chunks.ensures.front,
      c.as_chunks-2.ensures.front,
      c.as_chunks-3.ensures.front,
      c.as_chunks-4.ensures.front,
      same_q,
      same_r,
      same_s,
      chunk_at 8 n i a.p.now [] below,
      chunk_at 8 n i a.q.now [] below,
      chunk_at 8 n i a.r.now [] below,
      chunk_at 8 n i a.s.now [] below,
      next,
    )
    (record {
      x = four_more 8 at a.x.now c.loop-i.x a.p.now a.q.now a.r.now a.s.now a.f (omega arith) (omega arith) (omega arith) (omega arith) (omega arith)
          c.loop-i.invariant.x;
      y = four_more 8 at a.y.now c.loop-i.y a.p.now a.q.now a.r.now a.s.now a.g (omega arith) (omega arith) (omega arith) (omega arith) (omega arith)
          c.loop-i.invariant.y;
    })

pub returns : goal.returns
returns c =
    let a = c.args in
    let n = length c.as_chunks.result.0.now * 8 in
    let all : c.loop-i.i * 8 ≡ n = omega arith in
    record {
      x = four_end a.x.now a.p.now a.q.now a.r.now a.s.now a.f c.loop-i.x _ n (omega arith) (rw all at c.loop-i.invariant.x) c.add_four_rest.ensures.kept
          c.add_four_rest.ensures.done;
      y = four_end a.y.now a.p.now a.q.now a.r.now a.s.now a.g c.loop-i.y _ n (omega arith) (rw all at c.loop-i.invariant.y) c.add_four_rest-2.ensures.kept
          c.add_four_rest-2.ensures.done;
    }
