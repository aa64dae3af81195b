use Rattle.std.proofs.Common.{◌≡◌, ℕ, ◌<◌, ◌≤◌}
use Rattle.matrix_u32.specs.Matrix.{IsWhole, entry}
use Rattle.hint_update.proofs.rows.clear_rows.Given as goal

abbrev pub invariant-loop-k : goal.invariant-loop-k
invariant-loop-k l = record {
  rows : l.m.rows ≡ l.fn.m.rows;
  cols : l.m.cols ≡ l.fn.m.cols;
  whole : IsWhole l.m;
  kept : (k q : ℕ) → k < l.from → q < l.fn.m.cols → entry l.m k q ≡ entry l.fn.m k q;
  cleared : (k q : ℕ) → l.from ≤ k → k < l.k → q < l.fn.m.cols → entry l.m k q ≡ 0;
}
