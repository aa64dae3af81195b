use Rattle.std.proofs.Common.{◌≡◌, ◌*◌, slice_index}
use Rattle.matrix_u32.specs.Blocks.{plus_rows}
use Rattle.lane_kernels.proofs.two_rows.add_rows_to_two.Given as goal

abbrev pub invariant-loop-t : goal.invariant-loop-t
invariant-loop-t l = record {
  x : l.x ≡ plus_rows l.fn.x (l.t * 4) (λ k. slice_index l.first k) l.b l.start;
  y : l.y ≡ plus_rows l.fn.y (l.t * 4) (λ k. slice_index l.second k) l.b l.start;
}
