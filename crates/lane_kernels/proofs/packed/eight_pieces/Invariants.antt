use Rattle.lane_kernels.proofs.PackedSums.{IsLanesSum}
use Rattle.lane_kernels.proofs.packed.eight_pieces.Given as goal

-- the sums of eight rows so far
abbrev pub invariant-loop-i : goal.invariant-loop-i
invariant-loop-i l = record {
  p : IsLanesSum l.p l.x.a.now l.x.b.now l.x.c.now l.i l.ps;
  q : IsLanesSum l.q l.x.a.now l.x.b.now l.x.c.now l.i l.qs;
  r : IsLanesSum l.r l.x.a.now l.x.b.now l.x.c.now l.i l.rs;
  s : IsLanesSum l.s l.x.a.now l.x.b.now l.x.c.now l.i l.ss;
  t : IsLanesSum l.t l.x.a.now l.x.b.now l.x.c.now l.i l.ts;
  u : IsLanesSum l.u l.x.a.now l.x.b.now l.x.c.now l.i l.us;
  v : IsLanesSum l.v l.x.a.now l.x.b.now l.x.c.now l.i l.vs;
  w : IsLanesSum l.w l.x.a.now l.x.b.now l.x.c.now l.i l.ws;
}
