use Rattle.std.proofs.Common.{◌≡◌}
use Rattle.kernel_bench.proofs.work.store_row.Given as goal

abbrev pub invariant-loop-j : goal.invariant-loop-j
invariant-loop-j l = record {
  height : l.store.rows ≡ l.fn.store.rows;
  width : l.store.cols ≡ l.fn.store.cols;
}
