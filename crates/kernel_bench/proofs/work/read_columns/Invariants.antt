use Rattle.std.proofs.Common.{◌≡◌}
use Rattle.kernel_bench.proofs.work.read_columns.Given as goal

abbrev pub invariant-loop-i : goal.invariant-loop-i
invariant-loop-i l = record {
  height : l.m.rows ≡ l.fn.m.rows;
  width : l.m.cols ≡ l.fn.m.cols;
}
