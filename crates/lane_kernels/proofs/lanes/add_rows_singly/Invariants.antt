use Rattle.std.proofs.Common.{◌≡◌, slice_index}
use Rattle.matrix_u32.specs.Blocks.{plus_rows}
use Rattle.lane_kernels.proofs.lanes.add_rows_singly.Given as goal

abbrev pub invariant-loop-k : goal.invariant-loop-k
invariant-loop-k l = l.out ≡ plus_rows l.fn.out l.k (λ k. slice_index l.factors k) l.b l.start
