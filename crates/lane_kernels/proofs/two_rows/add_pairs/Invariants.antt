use Rattle.std.proofs.Common.{◌*◌}
use Rattle.lane_kernels.specs.Rows.{AddedBelow}
use Rattle.lane_kernels.proofs.two_rows.add_pairs.Given as goal

abbrev pub invariant-loop-t : goal.invariant-loop-t
invariant-loop-t l = AddedBelow l.fn.out l.a l.b l.start l.count (l.t * 2) l.out
