use Rattle.std.proofs.Common.{◌≡◌}
use Rattle.kernel_bench.proofs.timing.split.Given as goal

abbrev pub invariant-loop-turn : goal.invariant-loop-turn
invariant-loop-turn l = record {
  height : l.out.rows ≡ l.fn.out.rows;
  width : l.out.cols ≡ l.fn.out.cols;
}
