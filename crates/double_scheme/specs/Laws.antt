-- Laws of DoublePIR.
use Rattle.std.specs.Prelude.{◌≡◌, ℕ, ◌+◌, ◌<◌, List, slice_index}
use Rattle.matrix_u32.specs.Matrix.{WordMatrix, entry, row, product, times_vector}
use Rattle.noise_table.specs.Margin.{IsCertain}
use Rattle.digit_pack.specs.Layout.{Shape, IsShape, digit_matrix, digit_cols, digit_rows, digits_per_record, first_row, record_at, record_digits}
use Rattle.double_scheme.specs.Double.{
  server_hint_of,
  client_hint_of,
  first_answer_of,
  first_query_of,
  double_query,
  double_answer,
  part_secret,
  answer_hint,
  answer_part,
  server_hint_words,
  first_answer_words,
  second_digit,
  row_read,
  word_read,
  double_reading,
  IsQuietDouble,
}

-- what part d of the answer to a query gives, through the second layer: digit by digit the column
-- of the server's hint H and of the first answer that belongs to the row of digit d; and the words
-- that these digits write, which are that row of D A1 and that word of D c1
pub record GivesRowOf (l : Shape) (records : List (List ℕ)) (a1 a2 : WordMatrix) (seed : List ℕ) (number i d : ℕ) : Type 0 where
  pub hint_digits : let digits = digit_matrix l records in
      let server_hint = server_hint_of l.width digits a1 in
      let answer = double_answer l digits server_hint a2 (double_query l a1 a2 seed number i) in
      (r : ℕ) → r < server_hint.rows →
      second_digit l.width (client_hint_of server_hint a2) (part_secret seed number a2.cols d)
      (server_hint_words l.width a2.cols (answer_part l.width a2.cols answer d)) r
      ≡ entry server_hint r (first_row l i + d)
  pub first_digits : let digits = digit_matrix l records in
      let answer = double_answer l digits (server_hint_of l.width digits a1) a2 (double_query l a1 a2 seed number i) in
      let first_answer = first_answer_of l.width digits (first_query_of l a1 seed number i) in
      (r : ℕ) → r < first_answer.rows →
      second_digit l.width (answer_hint l.width a2.cols answer) (part_secret seed number a2.cols d)
      (first_answer_words l.width a2.cols (answer_part l.width a2.cols answer d)) r
      ≡ entry first_answer r (first_row l i + d)
  pub row : let digits = digit_matrix l records in
      let server_hint = server_hint_of l.width digits a1 in
      let answer = double_answer l digits server_hint a2 (double_query l a1 a2 seed number i) in
      row_read l.width a2.cols (client_hint_of server_hint a2) (part_secret seed number a2.cols d) (answer_part l.width a2.cols answer d)
      ≡ row (product digits a1) (first_row l i + d)
  pub word : let digits = digit_matrix l records in
      let answer = double_answer l digits (server_hint_of l.width digits a1) a2 (double_query l a1 a2 seed number i) in
      word_read l.width a2.cols (answer_hint l.width a2.cols answer) (part_secret seed number a2.cols d) (answer_part l.width a2.cols answer d)
      ≡ slice_index (times_vector digits (first_query_of l a1 seed number i)) (first_row l i + d)

-- each part of a quiet answer gives them
abbrev pub QuietPartGivesItsRow : Type 0
QuietPartGivesItsRow = (l : Shape) (records : List (List ℕ)) (a1 a2 : WordMatrix) (seed : List ℕ) (number i d : ℕ) →
    IsShape l → i < l.count → d < digits_per_record l → a1.rows ≡ digit_cols l → a2.rows ≡ digit_rows l → a2.cols ≡ a1.cols →
    IsQuietDouble l records a1 seed number i →
    GivesRowOf l records a1 a2 seed number i d

-- a quiet retrieval reads the record's digits
abbrev pub QuietDoubleRetrievalReadsTheRecord : Type 0
QuietDoubleRetrievalReadsTheRecord = (l : Shape) (records : List (List ℕ)) (a1 a2 : WordMatrix) (seed : List ℕ) (number i : ℕ) →
    IsShape l → i < l.count → a1.rows ≡ digit_cols l → a2.rows ≡ digit_rows l → a2.cols ≡ a1.cols →
    IsQuietDouble l records a1 seed number i →
    let digits = digit_matrix l records in
    let server_hint = server_hint_of l.width digits a1 in
    double_reading l (client_hint_of server_hint a2) seed number (double_answer l digits server_hint a2 (double_query l a1 a2 seed number i))
    ≡ record_digits l (record_at records i)

-- on a certain shape every retrieval is quiet
abbrev pub DoubleCertainShapeIsQuiet : Type 0
DoubleCertainShapeIsQuiet = (l : Shape) (records : List (List ℕ)) (a1 : WordMatrix) (seed : List ℕ) (number i : ℕ) →
    IsShape l → IsCertain l.width (digit_cols l) → IsCertain l.width (digit_rows l) →
    IsQuietDouble l records a1 seed number i
