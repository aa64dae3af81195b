use Rattle.std.proofs.Common.{◌≡◌, ◌≢◌, ℕ, ◌<◌}
use Rattle.matrix_u32.specs.Matrix.{entry, row, IsWhole}
use Rattle.double_scheme.specs.Double.{answer_part, server_hint_words, second_word}
use Rattle.double_scheme.proofs.records.read_column.Given as goal

-- the word of each part before d, and all else as it was
abbrev pub invariant-loop-d : goal.invariant-loop-d
invariant-loop-d g l = record {
  rows : l.out.rows ≡ l.fn.out.rows;
  cols : l.out.cols ≡ l.fn.out.cols;
  whole : IsWhole l.out;
  here : (i : ℕ) → i < l.d → entry l.out i l.k
      ≡ second_word l.reading.w l.client_hint (row l.reading.secrets.now i) (server_hint_words l.reading.w l.client_hint.cols (answer_part l.reading.w l.client_hint.cols l.reading.answer.now i)) l.k;
  others : (i j : ℕ) → i < l.fn.out.rows → j < l.fn.out.cols → j ≢ l.k → entry l.out i j ≡ entry l.fn.out i j;
}
