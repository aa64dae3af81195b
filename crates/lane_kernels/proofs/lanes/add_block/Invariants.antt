use Rattle.lane_kernels.specs.Rows.{AddedBelow}
use Rattle.lane_kernels.proofs.lanes.add_block.Given as goal

abbrev pub invariant-loop-i : goal.invariant-loop-i
invariant-loop-i l = AddedBelow l.fn.out l.a l.b l.start l.count l.i l.out
