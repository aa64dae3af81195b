use Rattle.std.proofs.Common.{◌≡◌, ℕ, ◌<◌}
use Rattle.matrix_u32.specs.Matrix.{entry, row}
use Rattle.double_scheme.specs.Double.{answer_part, server_hint_words, second_word}
use Rattle.double_scheme.proofs.records.read_rows.Given as goal

-- the words before k of all rows
abbrev pub invariant-loop-k : goal.invariant-loop-k
invariant-loop-k g l = record {
  rows : l.out.rows ≡ l.fn.out.rows;
  cols : l.out.cols ≡ l.fn.out.cols;
  read : (d j : ℕ) → d < l.reading.secrets.now.rows → j < l.k → entry l.out d j
      ≡ second_word l.reading.w l.client_hint (row l.reading.secrets.now d) (server_hint_words l.reading.w l.client_hint.cols (answer_part l.reading.w l.client_hint.cols l.reading.answer.now d)) j;
}
