use Rattle.std.proofs.Common.{◌≡◌, ◌*◌, slice_index}
use Rattle.matrix_u32.specs.Blocks.{plus_rows}
use Rattle.lane_kernels.proofs.lanes.add_rows.Given as goal

abbrev pub invariant-loop-t : goal.invariant-loop-t
invariant-loop-t l = l.out ≡ plus_rows l.fn.out (l.t * 4) (λ k. slice_index l.factors k) l.b l.start
