-- A quiet retrieval through both layers.
use Rattle.std.proofs.Common.{◌≡◌, ℕ, ◌+◌, ◌*◌, ◌<◌, ◌^◌, arith, ap, subst, mul_comm, ◌∙◌, sym, List, length, take}
use Rattle.std.proofs.lemmas.List.{take_at, length-append}
use Rattle.std.specs.Prelude.{slice_index}
use Rattle.matrix_u32.specs.Sum.{list_of}
use Rattle.matrix_u32.specs.Matrix.{WordMatrix, row, entry, product, times_vector}
use Rattle.matrix_u32.proofs.Products.{length-list_of}
use Rattle.noise_table.specs.Margin.{IsQuiet}
use Rattle.regev_core.specs.Encryption.{stripped, nearest}
use Rattle.regev_core.specs.Laws.{QuietMatrixRowGivesItsEntry}
use Rattle.lane_kernels.specs.Digit.{digit, split_count}
use Rattle.digit_pack.specs.Digits.{number_of}
use Rattle.digit_pack.specs.Laws.{SplitJoins, DigitsAreSmall, DecomposedStandsBelow, RecordStandsInside, RecordStandsInItsColumn}
use Rattle.digit_pack.specs.Layout.{Shape, IsShape, digit_matrix, digit_rows, digit_cols, digits_per_record, first_row, column_of, record_at}
use Rattle.simple_scheme.specs.Simple.{secret, query_noise, simple_query}
use Rattle.double_scheme.specs.Double.{server_hint_of, client_hint_of, first_answer_of, first_query_of, part_query_of, double_query, part_of_query, part_answer_of, double_answer, answer_hint, answer_part, double_answer_count, answer_part_count, second_digit, server_hint_words, first_answer_words, row_read, word_read, double_digit_read, part_secret, part_noise, IsQuietDouble}
use Rattle.double_scheme.specs.Laws.{GivesRowOf}
use Rattle.double_scheme.proofs.Blocks.{block_after}
use Rattle.double_scheme.proofs.Lengths.{length-answer_of}
use Rattle.double_scheme.proofs.SecondLayer.{hint_digit_of, first_digit_of, row_read_of, word_read_of}

module _ (l : Shape) (records : List (List ℕ)) (a1 a2 : WordMatrix) (seed : List ℕ) (number i : ℕ) (rows1 : a1.rows ≡ digit_cols l)
    (rows2 : a2.rows ≡ digit_rows l) (cols : a2.cols ≡ a1.cols) where
  length-first_query : length (first_query_of l a1 seed number i) ≡ digit_cols l
  unfolding simple_query
  length-first_query = length-list_of a1.rows _ ∙ rows1

  -- a query's words are its first query and its parts
  prefix : take (digit_cols l) (double_query l a1 a2 seed number i) ≡ first_query_of l a1 seed number i
  unfolding double_query
  prefix = take_at (first_query_of l a1 seed number i) _ (digit_cols l) length-first_query

  part : (d : ℕ) → d < digits_per_record l → part_of_query l (double_query l a1 a2 seed number i) d ≡ part_query_of l a2 seed number i d
  unfolding double_query
  part d p =
      block_after (first_query_of l a1 seed number i) (part_query_of l a2 seed number i) (digit_cols l) (digit_rows l) (digits_per_record l) d
      length-first_query (λ k. length-list_of a2.rows _ ∙ rows2) p

  -- the first answer to a query's words is that to its first query
  first_answer : first_answer_of l.width (digit_matrix l records) (take (digit_cols l) (double_query l a1 a2 seed number i))
      ≡ first_answer_of l.width (digit_matrix l records) (first_query_of l a1 seed number i)
  first_answer = ap (first_answer_of l.width (digit_matrix l records)) prefix

  length-server_hint_words : (f : WordMatrix) → f.rows ≡ split_count l.width → length (product f a2).words ≡ a2.cols * split_count l.width
  length-server_hint_words f e = length-list_of (f.rows * a2.cols) _ ∙ ap (λ k. k * a2.cols) e ∙ mul_comm (split_count l.width) a2.cols

  length-part_answer : (f : WordMatrix) (c : List ℕ) → f.rows ≡ split_count l.width →
      length (part_answer_of (server_hint_of l.width (digit_matrix l records) a1) f c) ≡ answer_part_count l.width a2.cols
  length-part_answer f c e =
      let one : length (times_vector (server_hint_of l.width (digit_matrix l records) a1) c) ≡ a1.cols * split_count l.width =
      length-list_of (a1.cols * split_count l.width) _ in
      let two : length (times_vector f c) ≡ split_count l.width = length-list_of f.rows _ ∙ e in
      length-append (times_vector (server_hint_of l.width (digit_matrix l records) a1) c) (times_vector f c)
      ∙ ap (λ k. k + length (times_vector f c)) (one ∙ ap (λ n. n * split_count l.width) (sym cols)) ∙ ap (λ k. a2.cols * split_count l.width + k) two

  -- an answer's words are the first answer's hint and its parts
  answer_prefix : take (a2.cols * split_count l.width)
      (double_answer l (digit_matrix l records) (server_hint_of l.width (digit_matrix l records) a1) a2 (double_query l a1 a2 seed number i))
      ≡ (product (first_answer_of l.width (digit_matrix l records) (first_query_of l a1 seed number i)) a2).words
  unfolding double_answer
  answer_prefix =
      let first = first_answer_of l.width (digit_matrix l records) (take (digit_cols l) (double_query l a1 a2 seed number i)) in
      take_at (product first a2).words _ (a2.cols * split_count l.width) (length-server_hint_words first (omega arith))
      ∙ ap (λ f. (product f a2).words) first_answer

  answer_part_is : (d : ℕ) → d < digits_per_record l →
      answer_part l.width a2.cols
      (double_answer l (digit_matrix l records) (server_hint_of l.width (digit_matrix l records) a1) a2 (double_query l a1 a2 seed number i)) d
      ≡ part_answer_of (server_hint_of l.width (digit_matrix l records) a1)
      (first_answer_of l.width (digit_matrix l records) (first_query_of l a1 seed number i)) (part_query_of l a2 seed number i d)
  unfolding double_answer
  answer_part_is d p =
      let hint = server_hint_of l.width (digit_matrix l records) a1 in
      let words = double_query l a1 a2 seed number i in
      let first = first_answer_of l.width (digit_matrix l records) (take (digit_cols l) words) in
      block_after (product first a2).words (λ k. part_answer_of hint first (part_of_query l words k)) (a2.cols * split_count l.width)
      (answer_part_count l.width a2.cols) (digits_per_record l) d
      (length-server_hint_words first (omega arith)) (λ k. length-part_answer first (part_of_query l words k) (omega arith)) p
      ∙ ap (part_answer_of hint first) (part d p)
      ∙ ap (λ f. part_answer_of hint f (part_query_of l a2 seed number i d)) first_answer

  -- an answer has the layout's count of words
  pub length-answer :
      length (double_answer l (digit_matrix l records) (server_hint_of l.width (digit_matrix l records) a1) a2 (double_query l a1 a2 seed number i))
      ≡ double_answer_count l a2.cols
  length-answer =
      length-answer_of l (digit_matrix l records) (server_hint_of l.width (digit_matrix l records) a1) a2 (double_query l a1 a2 seed number i)
      (ap (λ n. n * split_count l.width) (sym cols))

  -- the rows of the prefix of an answer are the rows of the first answer's hint
  hint_row : (k : ℕ) → row
      (answer_hint l.width a2.cols
      (double_answer l (digit_matrix l records) (server_hint_of l.width (digit_matrix l records) a1) a2 (double_query l a1 a2 seed number i))) k
      ≡ row (product (first_answer_of l.width (digit_matrix l records) (first_query_of l a1 seed number i)) a2) k
  hint_row k = ap (λ ws. list_of a2.cols (λ j. slice_index ws (k * a2.cols + j))) answer_prefix

  -- what a quiet part gives: the words of its row
  pub part_gives : QuietMatrixRowGivesItsEntry → SplitJoins → DigitsAreSmall → DecomposedStandsBelow → RecordStandsInside → IsShape l → i < l.count →
      IsQuietDouble l records a1 seed number i →
      (d : ℕ) → d < digits_per_record l → GivesRowOf l records a1 a2 seed number i d
  part_gives quiet_law join_law small below inside s p quiet d q =
      let w : ℕ = l.width in
      let m = digit_matrix l records in
      let r : ℕ = first_row l i + d in
      let c = first_query_of l a1 seed number i in
      let hint = server_hint_of w m a1 in
      let first = first_answer_of w m c in
      let e = part_noise seed number a2.rows d in
      let s2 = part_secret seed number a2.cols d in
      let answer = double_answer l m hint a2 (double_query l a1 a2 seed number i) in
      let place : (r < digit_rows l) × (column_of l i < digit_cols l) = inside l i d s p q in
      let κ : ℕ = split_count w in
      let part = part_answer_of hint first (part_query_of l a2 seed number i d) in
      record {
        hint_digits = λ k b.
            ap (λ y. second_digit w (product hint a2) s2 (server_hint_words w a2.cols y) k) (answer_part_is d q)
            ∙ ap (λ n. second_digit w (product hint a2) s2 (server_hint_words w n part) k) cols
            ∙ hint_digit_of quiet_law small w m a1 a2 c s2 e r k s.small rows2 place.0 b
            (subst (λ n. IsQuiet w (row hint k) (part_noise seed number n d)) (sym rows2) (quiet.hint d k q b));
        first_digits = λ k b.
            let low : k < κ = omega arith in
            ap (λ y. second_digit w (answer_hint w a2.cols answer) s2 (first_answer_words w a2.cols y) k) (answer_part_is d q)
            ∙ ap (λ n. second_digit w (answer_hint w a2.cols answer) s2 (first_answer_words w n part) k) cols
            ∙ first_digit_of quiet_law small w m a1 a2 (answer_hint w a2.cols answer) c s2 e r k s.small rows2 place.0 low
            (subst (λ n. IsQuiet w (row first k) (part_noise seed number n d)) (sym rows2) (quiet.answer d k q low))
            (hint_row k);
        row = ap (row_read w a2.cols (product hint a2) s2) (answer_part_is d q)
            ∙ ap (λ n. row_read w n (product hint a2) s2 (part_answer_of hint first (part_query_of l a2 seed number i d))) cols
            ∙ row_read_of quiet_law join_law small below w m a1 a2 c s2 e r s.width s.small rows1 rows2 place.0
            (λ k b. subst (λ n. IsQuiet w (row hint k) (part_noise seed number n d)) (sym rows2) (quiet.hint d k q b));
        word = ap (word_read w a2.cols (answer_hint w a2.cols answer) s2) (answer_part_is d q)
            ∙ ap (λ n. word_read w n (answer_hint w a2.cols answer) s2 (part_answer_of hint first (part_query_of l a2 seed number i d))) cols
            ∙ word_read_of quiet_law join_law small below w m a1 a2 (answer_hint w a2.cols answer) c s2 e r s.width s.small rows2 length-first_query place.0
            (λ k b. subst (λ n. IsQuiet w (row first k) (part_noise seed number n d)) (sym rows2) (quiet.answer d k q b))
            (λ k b. hint_row k);
      }

  -- each part reads its digit
  pub part_reads : QuietMatrixRowGivesItsEntry → DigitsAreSmall → RecordStandsInside → RecordStandsInItsColumn → IsShape l → i < l.count →
      IsQuietDouble l records a1 seed number i →
      (d : ℕ) → d < digits_per_record l → GivesRowOf l records a1 a2 seed number i d →
      double_digit_read l (client_hint_of (server_hint_of l.width (digit_matrix l records) a1) a2) seed number
      (double_answer l (digit_matrix l records) (server_hint_of l.width (digit_matrix l records) a1) a2 (double_query l a1 a2 seed number i)) d
      ≡ digit l.width (number_of 8 (record_at records i)) d
  unfolding simple_query
  part_reads quiet_law small inside stands s p quiet d q gives =
      let w : ℕ = l.width in
      let m = digit_matrix l records in
      let r : ℕ = first_row l i + d in
      let place : (r < digit_rows l) × (column_of l i < digit_cols l) = inside l i d s p q in
      let at : entry m r (column_of l i) ≡ digit w (number_of 8 (record_at records i)) d = stands l records i d s p q in
      let small_digit : entry m r (column_of l i) < 2 ^ w = omega (arith, at, small w (number_of 8 (record_at records i)) d) in
      let answer = double_answer l m (server_hint_of w m a1) a2 (double_query l a1 a2 seed number i) in
      let s2 = part_secret seed number a2.cols d in
      ap (λ x. nearest w (stripped x (row_read w a2.cols (client_hint_of (server_hint_of w m a1) a2) s2 (answer_part w a2.cols answer d))
      (secret seed number a2.cols))) gives.word
      ∙ ap (λ y. nearest w (stripped (slice_index (times_vector m (first_query_of l a1 seed number i)) r) y (secret seed number a2.cols))) gives.row
      ∙ ap (λ n. nearest w (stripped (slice_index (times_vector m (first_query_of l a1 seed number i)) r) (row (product m a1) r) (secret seed number n))) cols
      ∙ quiet_law w m a1 (secret seed number a1.cols) (query_noise seed number a1.rows) r (column_of l i) s.small place.0 (sym rows1)
      (omega (arith, place.1)) small_digit (quiet.first d q)
      ∙ at
