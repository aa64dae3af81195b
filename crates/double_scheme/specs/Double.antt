-- DoublePIR: what its hints, a query and an answer say, and how an answer is read.
use Rattle.std.specs.Prelude.{ℕ, ◌+◌, ◌*◌, ◌<◌, List, ◌++◌, ℤ, length, take, drop, slice_index, flat_map}
use Rattle.std.specs.List.{range_with_len}
use Rattle.matrix_u32.specs.Sum.{list_of}
use Rattle.matrix_u32.specs.Matrix.{WordMatrix, row, product, transpose, times_vector}
use Rattle.seed_expand.specs.Words.{words_from}
use Rattle.noise_table.specs.Noise.{noise_from}
use Rattle.noise_table.specs.Margin.{IsQuiet}
use Rattle.regev_core.specs.Encryption.{cipher, stripped, nearest}
use Rattle.lane_kernels.specs.Digit.{split_count}
use Rattle.digit_pack.specs.Digits.{decomposed, joined}
use Rattle.digit_pack.specs.Layout.{Shape, digit_matrix, digit_rows, digit_cols, digits_per_record, first_row}
use Rattle.simple_scheme.specs.Simple.{secret, simple_query, IsQuietRetrieval}

-- the secret of part d: n words of the client's stream 4 number + 2, from place d n on
abbrev pub part_secret : List ℕ → ℕ → ℕ → ℕ → List ℕ
part_secret seed number n d = words_from seed (4 * number + 2) (d * n) n

-- the noise of part d: that of `rows` words of the client's stream 4 number + 3, from place d rows
-- on
abbrev pub part_noise : List ℕ → ℕ → ℕ → ℕ → List ℤ
part_noise seed number rows d = noise_from seed (4 * number + 3) (d * rows) rows

-- the digits of A1^T D^T: split_count rows to a word
abbrev pub server_hint_of : ℕ → WordMatrix → WordMatrix → WordMatrix
server_hint_of w digits a1 = decomposed w (product (transpose a1) (transpose digits))

-- what a client keeps: the server's hint times the second public matrix
abbrev pub client_hint_of : WordMatrix → WordMatrix → WordMatrix
client_hint_of server_hint a2 = product server_hint a2

-- words as a matrix of one row
abbrev pub one_row : List ℕ → WordMatrix
one_row words = record { rows = 1; cols = length words; words = words }

-- words as a matrix of one column
abbrev pub one_column : List ℕ → WordMatrix
one_column words = record { rows = length words; cols = 1; words = words }

-- the digits of c^T D^T, the first answer to the words c of a first query
abbrev pub first_answer_of : ℕ → WordMatrix → List ℕ → WordMatrix
first_answer_of w digits c = decomposed w (product (one_row c) (transpose digits))

-- how many words a query has: one for each column, and for each digit of a record one for each row
abbrev pub double_query_count : Shape → ℕ
double_query_count l = digit_cols l + digits_per_record l * digit_rows l

-- the prefix of the query for record i: SimplePIR's query for it
abbrev pub first_query_of : Shape → WordMatrix → List ℕ → ℕ → ℕ → List ℕ
first_query_of l a1 seed number i = simple_query l a1 seed number i

-- part d of the query for record i: the encryption of the row in which the record has its digit d
abbrev pub part_query_of : Shape → WordMatrix → List ℕ → ℕ → ℕ → ℕ → List ℕ
part_query_of l a2 seed number i d =
    cipher l.width a2 (part_secret seed number a2.cols d) (part_noise seed number a2.rows d) (first_row l i + d)

-- the parts of the query for record i, one after another
abbrev pub part_queries_of : Shape → WordMatrix → List ℕ → ℕ → ℕ → List ℕ
part_queries_of l a2 seed number i = flat_map (part_query_of l a2 seed number i) (range_with_len 0 (digits_per_record l))

-- the query for record i
unfoldable pub double_query : Shape → WordMatrix → WordMatrix → List ℕ → ℕ → ℕ → List ℕ
double_query l a1 a2 seed number i = simple_query l a1 seed number i ++ part_queries_of l a2 seed number i

-- the words of part d of a query's words
abbrev pub part_of_query : Shape → List ℕ → ℕ → List ℕ
part_of_query l words d = take (digit_rows l) (drop (digit_cols l + d * digit_rows l) words)

-- the answer to a part of a query: the server's hint and the first answer, each times the part
abbrev pub part_answer_of : WordMatrix → WordMatrix → List ℕ → List ℕ
part_answer_of server_hint first_answer part = times_vector server_hint part ++ times_vector first_answer part

-- the answers to all parts of a query's words
abbrev pub part_answers_of : Shape → WordMatrix → WordMatrix → List ℕ → List ℕ
part_answers_of l server_hint first_answer words =
    flat_map (λ d. part_answer_of server_hint first_answer (part_of_query l words d)) (range_with_len 0 (digits_per_record l))

-- the answer to a query: the first answer's hint, and the answers to the parts
unfoldable pub double_answer : Shape → WordMatrix → WordMatrix → WordMatrix → List ℕ → List ℕ
double_answer l digits server_hint a2 words =
    let first_answer = first_answer_of l.width digits (take (digit_cols l) words) in
    (product first_answer a2).words ++ part_answers_of l server_hint first_answer words

-- ---- reading, from the words of an answer: the first answer's hint h, and the words of each part
-- how many words a part of an answer has
abbrev pub answer_part_count : ℕ → ℕ → ℕ
answer_part_count w n = n * split_count w + split_count w

-- how many words an answer has, under public matrices of n columns
abbrev pub double_answer_count : Shape → ℕ → ℕ
double_answer_count l n = n * split_count l.width + digits_per_record l * answer_part_count l.width n

-- the hint of the first answer, row t of it for digit t
abbrev pub answer_hint : ℕ → ℕ → List ℕ → WordMatrix
answer_hint w n answer = record { rows = split_count w; cols = n; words = take (n * split_count w) answer }

-- the words of part d of an answer
abbrev pub answer_part : ℕ → ℕ → List ℕ → ℕ → List ℕ
answer_part w n answer d = take (answer_part_count w n) (drop (n * split_count w + d * answer_part_count w n) answer)

-- a digit of the second layer: a word of a part, less a row of a hint times the part's secret,
-- rounded
abbrev pub second_digit : ℕ → WordMatrix → List ℕ → List ℕ → ℕ → ℕ
second_digit w hint s words r = nearest w (stripped (slice_index words r) (row hint r) s)

-- the word whose digits begin in row k split_count
abbrev pub second_word : ℕ → WordMatrix → List ℕ → List ℕ → ℕ → ℕ
second_word w hint s words k = joined w (list_of (split_count w) (λ t. second_digit w hint s words (k * split_count w + t)))

-- the words of a part that are the server's hint times its query
abbrev pub server_hint_words : ℕ → ℕ → List ℕ → List ℕ
server_hint_words w n part = take (n * split_count w) part

-- the words of a part that are the first answer times its query
abbrev pub first_answer_words : ℕ → ℕ → List ℕ → List ℕ
first_answer_words w n part = drop (n * split_count w) part

-- the digit's row of D A1, which the words of the server's hint times the query give
abbrev pub row_read : ℕ → ℕ → WordMatrix → List ℕ → List ℕ → List ℕ
row_read w n client_hint s2 part = list_of n (second_word w client_hint s2 (server_hint_words w n part))

-- the word of D c1 in the digit's row, which the words of the first answer times the query give
abbrev pub word_read : ℕ → ℕ → WordMatrix → List ℕ → List ℕ → ℕ
word_read w n h s2 part = second_word w h s2 (first_answer_words w n part) 0

-- the digit that a part gives: its word of D c1, less its row of D A1 times the first secret,
-- rounded to the nearest digit
abbrev pub part_read : ℕ → ℕ → WordMatrix → WordMatrix → List ℕ → List ℕ → List ℕ → ℕ
part_read w n client_hint h s1 s2 part = nearest w (stripped (word_read w n h s2 part) (row_read w n client_hint s2 part) s1)

-- the digit that part d of an answer gives
abbrev pub double_digit_read : Shape → WordMatrix → List ℕ → ℕ → List ℕ → ℕ → ℕ
double_digit_read l client_hint seed number answer d =
    part_read l.width client_hint.cols client_hint (answer_hint l.width client_hint.cols answer) (secret seed number client_hint.cols)
    (part_secret seed number client_hint.cols d) (answer_part l.width client_hint.cols answer d)

-- the digits that an answer gives
unfoldable pub double_reading : Shape → WordMatrix → List ℕ → ℕ → List ℕ → List ℕ
double_reading l client_hint seed number answer = list_of (digits_per_record l) (double_digit_read l client_hint seed number answer)

-- the noise stays below half of delta in the rows of the record, and for each part in the rows of
-- the server's hint and of the first answer
pub record IsQuietDouble (l : Shape) (records : List (List ℕ)) (a1 : WordMatrix) (seed : List ℕ) (number i : ℕ) : Type 0 where
  pub first : IsQuietRetrieval l records seed number a1.rows i
  pub hint : (d r : ℕ) → d < digits_per_record l → r < a1.cols * split_count l.width →
      IsQuiet l.width (row (server_hint_of l.width (digit_matrix l records) a1) r) (part_noise seed number (digit_rows l) d)
  pub answer : (d r : ℕ) → d < digits_per_record l → r < split_count l.width →
      IsQuiet l.width (row (first_answer_of l.width (digit_matrix l records) (simple_query l a1 seed number i)) r) (part_noise seed number (digit_rows l) d)
