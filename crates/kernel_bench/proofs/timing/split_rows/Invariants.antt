use Rattle.std.proofs.Common.{◌≡◌}
use Rattle.kernel_bench.proofs.timing.split_rows.Given as goal

abbrev pub invariant-loop-r : goal.invariant-loop-r
invariant-loop-r l = record {
  height : l.out.rows ≡ l.fn.out.rows;
  width : l.out.cols ≡ l.fn.out.cols;
}
