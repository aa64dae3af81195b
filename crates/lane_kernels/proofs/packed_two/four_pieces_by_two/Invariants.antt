use Rattle.lane_kernels.proofs.PackedSums.{IsLanesSum}
use Rattle.lane_kernels.proofs.packed_two.four_pieces_by_two.Given as goal

-- the sums of four rows so far with each vector
abbrev pub invariant-loop-i : goal.invariant-loop-i
invariant-loop-i l = record {
  px : IsLanesSum l.p l.x.a.now l.x.b.now l.x.c.now l.i l.px;
  qx : IsLanesSum l.q l.x.a.now l.x.b.now l.x.c.now l.i l.qx;
  rx : IsLanesSum l.r l.x.a.now l.x.b.now l.x.c.now l.i l.rx;
  sx : IsLanesSum l.s l.x.a.now l.x.b.now l.x.c.now l.i l.sx;
  py : IsLanesSum l.p l.y.a.now l.y.b.now l.y.c.now l.i l.py;
  qy : IsLanesSum l.q l.y.a.now l.y.b.now l.y.c.now l.i l.qy;
  ry : IsLanesSum l.r l.y.a.now l.y.b.now l.y.c.now l.i l.ry;
  sy : IsLanesSum l.s l.y.a.now l.y.b.now l.y.c.now l.i l.sy;
}
