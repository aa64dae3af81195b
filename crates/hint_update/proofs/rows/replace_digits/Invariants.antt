use Rattle.std.proofs.Common.{◌≡◌, ℕ, ◌<◌, ◌+◌, length}
use Rattle.matrix_u32.specs.Matrix.{entry}
use Rattle.hint_update.specs.Updates.{digit_change}
use Rattle.hint_update.proofs.Blocks.{TakesColumns}
use Rattle.hint_update.proofs.rows.replace_digits.Given as goal

abbrev pub invariant-loop-k : goal.invariant-loop-k
invariant-loop-k g l = record {
  server : TakesColumns l.new_rows.w l.new_rows.hint.now (g.S.DigitStore.digits l.fn.server_hint) (g.S.DigitStore.digits l.server_hint) l.new_rows.listed.now l.k l.block.first l.block.count;
  rows : l.changes.rows ≡ l.fn.changes.rows;
  cols : l.changes.cols ≡ l.fn.changes.cols;
  changes : (b k : ℕ) → b < l.block.count → k < l.k →
      entry l.changes b k ≡ digit_change l.new_rows.w l.new_rows.hint.now (g.S.DigitStore.digits l.fn.server_hint) l.new_rows.listed.now (l.block.first + b) k;
  new_count : length l.new ≡ l.block.count;
  old_count : length l.old ≡ l.block.count;
}
