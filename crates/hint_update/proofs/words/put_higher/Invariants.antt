use Rattle.std.proofs.Common.{◌≡◌, ℕ, ◌<◌}
use Rattle.matrix_u32.specs.Matrix.{IsWhole, entry}
use Rattle.hint_update.specs.Words.{higher_row}
use Rattle.hint_update.proofs.words.put_higher.Given as goal

abbrev pub invariant-loop-h : goal.invariant-loop-h
invariant-loop-h l = record {
  rows : l.higher.rows ≡ l.fn.higher.rows;
  cols : l.higher.cols ≡ l.fn.higher.cols;
  whole : IsWhole l.higher;
  copied : (h k : ℕ) → h < l.h → higher_row l.step h < l.changes.rows → k < l.changes.cols →
      entry l.higher h k ≡ entry l.changes (higher_row l.step h) k;
}
