use Rattle.std.proofs.Common.{◌≡◌}
use Rattle.kernel_bench.proofs.work.store_rows.Given as goal

abbrev pub invariant-loop-i : goal.invariant-loop-i
invariant-loop-i l = record {
  height : l.store.rows ≡ l.fn.store.rows;
  width : l.store.cols ≡ l.fn.store.cols;
}
