use Rattle.std.proofs.Common.{◌*◌}
use Rattle.lane_kernels.proofs.LaneSums.{FourSoFar}
use Rattle.lane_kernels.proofs.two_rows.add_four_to_two.Given as goal

abbrev pub invariant-loop-i : goal.invariant-loop-i
invariant-loop-i l = record {
  x : FourSoFar l.fn.x l.p l.q l.r l.s l.f (l.i * 8) l.x;
  y : FourSoFar l.fn.y l.p l.q l.r l.s l.g (l.i * 8) l.y;
}
