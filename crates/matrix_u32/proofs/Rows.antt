-- Rows that are written in place, and multiples of rows that are added to a row.
use Rattle.std.proofs.Common.{take, drop, ◌-◌, ◌≤◌, ◌≡◌, ◌≢◌, ℕ, ◌+◌, ◌*◌, ◌%◌, ◌^◌, ◌<◌, ◌==◌, if◌then◌else◌, ◌++◌, ◌∷◌, [], zero, suc, inl, inr, arith, ap, ◌∙◌, sym, refl, List, length, slice_index, replicate}
use Rattle.std.proofs.lemmas.Nat.{row_fits}
use Rattle.std.proofs.lemmas.Bool.{cases_eq, cases_lt}
use Rattle.std.proofs.lemmas.Bool.Decides.{nat_tests}
use Rattle.std.proofs.lemmas.List.{length-take-le, take-append-le, length-append, length-drop, drop-drop}
use Rattle.std.proofs.lemmas.Simd.{put_chunk_is, length-put_chunk, get_or-put_chunk_below, get_or-put_chunk_at, get_or-put_chunk_above, get_or-replicate, splat_is_map}
use Rattle.std.proofs.lemmas.List.FromFn.{length-range_with_len}
use Rattle.std.proofs.Math.Seq.{take-length, take-add}
use Rattle.std.specs.Simd.Lanes.{put_chunk}
use Rattle.std.specs.List.{range_with_len}
use Rattle.matrix_u32.specs.Sum.{sum_below}
use Rattle.matrix_u32.specs.Matrix.{WordMatrix, IsWhole, entry, matrix_of, row, plus_scaled, zero_matrix, with_row, overwritten, written_row}
use Rattle.matrix_u32.specs.Blocks.{plus_rows}
use Rattle.matrix_u32.proofs.Sums.{sum_below_more, sum_below_none}
use Rattle.matrix_u32.proofs.Products.{at-list_of, length-list_of, entry-matrix_of, piece-list_of, same-list_of, words_are}
use Rattle.matrix_u32.proofs.Changes.{matrix_by_entries}

-- what a loan of part of a list leaves, if the list keeps its length
pub overwritten_cut : (n place : ℕ) (new old : List ℕ) → length old ≡ n → place ≤ n
    → let x = take place old ++ (new ++ drop (length new) (drop place old)) in take n (x ++ drop (length x) old) ≡ overwritten place new old
overwritten_cut n place new old long le =
    let x = take place old ++ (new ++ drop (length new) (drop place old)) in
    let prefix : length (take place old) ≡ place = length-take-le place old (omega arith) in
    let size : length x ≡ place + (length new + (length old - place - length new)) = simp (length-append, length-drop) (omega (arith, prefix)) in
    rw (← long) (take-append-le (length old) x _ (omega (arith, size)))

pub overwritten_is : (place : ℕ) (new old : List ℕ) → place + length new ≤ length old → overwritten place new old ≡ put_chunk place old new
overwritten_is place new old fits =
    rw (← (put_chunk_is place old new fits), ← (length-put_chunk place old new)) (take-length (put_chunk place old new))

-- the words of a row, as a part of all words
row_piece : (m : WordMatrix) (i : ℕ) → i * m.cols + m.cols ≤ length m.words → take m.cols (drop (i * m.cols) m.words) ≡ row m i
row_piece m i room =
    let cut : i * m.cols + m.cols - i * m.cols ≡ m.cols = omega arith in
    rw cut at (piece-list_of m.words (i * m.cols) m.cols room)

-- those of two rows, one after the other
pub two_rows : (m : WordMatrix) (i : ℕ) → IsWhole m → i + 1 < m.rows
    → take (m.cols + m.cols) (drop (i * m.cols) m.words) ≡ row m i ++ row m (i + 1)
two_rows m i whole inside =
    let next : (i + 1) * m.cols ≡ i * m.cols + m.cols = omega arith in
    let fits : (i + 1) * m.cols + m.cols ≤ m.rows * m.cols = row_fits (i + 1) m.cols m.rows m.cols inside (omega arith) in
    let first = row_piece m i (omega (arith, whole, fits, next)) in
    let second = row_piece m (i + 1) (omega (arith, whole, fits)) in
    rw (take-add, first, drop-drop) (ap (λ p. row m i ++ take m.cols (drop p m.words)) (sym next) ∙ ap (λ ws. row m i ++ ws) second)

-- row i of a whole matrix, as it is written over with as many words as there are columns
module _ (m : WordMatrix) (i : ℕ) (words : List ℕ) (whole : IsWhole m) (inside : i < m.rows) (wide : length words ≡ m.cols) where
  room : i * m.cols + m.cols ≤ length m.words
  room = omega (arith, whole, row_fits i m.cols m.rows m.cols inside (omega arith))

  pub length-written_row : length (written_row m i words).words ≡ m.rows * m.cols
  length-written_row = ap length (overwritten_is (i * m.cols) words m.words (omega (arith, room))) ∙ length-put_chunk (i * m.cols) m.words words ∙ whole

  pub written_row-same : (q : ℕ) → q < m.cols → entry (written_row m i words) i q ≡ slice_index words q
  written_row-same q h =
      rw (overwritten_is (i * m.cols) words m.words (omega (arith, room)))
      (get_or-put_chunk_at (i * m.cols) m.words words q 0 (omega (arith, room)) (omega (arith, room)))

  pub written_row-other : (p q : ℕ) → p ≢ i → q < m.cols → entry (written_row m i words) p q ≡ entry m p q
  written_row-other p q ne h =
      rw (overwritten_is (i * m.cols) words m.words (omega (arith, room))) (elim (cases_lt p i) [
        | inl lt ↦
            let before : p * m.cols + m.cols ≤ i * m.cols = row_fits p m.cols i m.cols lt (omega arith) in
            get_or-put_chunk_below (i * m.cols) m.words words (p * m.cols + q) 0 (omega (arith, room))
        | inr le ↦
            let lt : i < p = omega arith in
            let after : i * m.cols + m.cols ≤ p * m.cols = row_fits i m.cols p m.cols lt (omega arith) in
            get_or-put_chunk_above (i * m.cols) m.words words (p * m.cols + q) 0 (omega (arith, room))
      ])

pub if_here : (r i u v : ℕ) → r ≡ i → (if r == i then u else v) ≡ u
if_here r i u v e = grind (arith, nat_tests)

pub if_elsewhere : (r i u v : ℕ) → r ≢ i → (if r == i then u else v) ≡ v
if_elsewhere r i u v e = grind (arith, nat_tests)

-- a row that is written over with as many words as there are columns is replaced
pub written_row_is : (m : WordMatrix) (i : ℕ) (words : List ℕ) → IsWhole m → i < m.rows → length words ≡ m.cols → written_row m i words ≡ with_row m i words
written_row_is m i words whole inside wide =
    matrix_by_entries (written_row m i words) m.rows m.cols (λ r j. if r == i then slice_index words j else entry m r j) refl refl
    (length-written_row m i words whole inside wide) (λ r j p q. elim (cases_eq r i) [
      | inl e ↦ ap (λ x. entry (written_row m i words) x j) e ∙ written_row-same m i words whole inside wide j q
          ∙ sym (if_here r i (slice_index words j) (entry m r j) e)
      | inr ne ↦ written_row-other m i words whole inside wide r j ne q ∙ sym (if_elsewhere r i (slice_index words j) (entry m r j) ne)
    ])

pub with_row-same : (m : WordMatrix) (i q : ℕ) (words : List ℕ) → i < m.rows → q < m.cols → entry (with_row m i words) i q ≡ slice_index words q
with_row-same m i q words p h =
    entry-matrix_of m.rows m.cols (λ r j. if r == i then slice_index words j else entry m r j) i q p h
    ∙ if_here i i (slice_index words q) (entry m i q) refl

pub with_row-other : (m : WordMatrix) (i r q : ℕ) (words : List ℕ) → r < m.rows → r ≢ i → q < m.cols → entry (with_row m i words) r q ≡ entry m r q
with_row-other m i r q words p ne h =
    entry-matrix_of m.rows m.cols (λ r j. if r == i then slice_index words j else entry m r j) r q p h
    ∙ if_elsewhere r i (slice_index words q) (entry m r q) ne

-- a whole matrix with f r j in row r, column j, all rows but i as in m, is m with row i replaced
pub row_index : (m : WordMatrix) (i q : ℕ) → q < m.cols → slice_index (row m i) q ≡ entry m i q
row_index m i q h = at-list_of m.cols (λ j. entry m i j) q h

pub length-row : (m : WordMatrix) (i : ℕ) → length (row m i) ≡ m.cols
length-row m i = length-list_of m.cols (λ j. entry m i j)

pub plus_rows-index : (out : List ℕ) (n : ℕ) (f : ℕ → ℕ) (b : WordMatrix) (start q : ℕ) → q < length out
    → slice_index (plus_rows out n f b start) q ≡ (slice_index out q + sum_below n (λ k. f k * entry b (start + k) q)) % 2 ^ 32
plus_rows-index out n f b start q h =
    at-list_of (length out) (λ j. (slice_index out j + sum_below n (λ k. f k * entry b (start + k) j)) % 2 ^ 32) q h

pub plus_rows-length : (out : List ℕ) (n : ℕ) (f : ℕ → ℕ) (b : WordMatrix) (start : ℕ) → length (plus_rows out n f b start) ≡ length out
plus_rows-length out n f b start = length-list_of (length out) _

-- no rows
pub plus_rows-none : (out : List ℕ) (f : ℕ → ℕ) (b : WordMatrix) (start : ℕ) → ((q : ℕ) → slice_index out q < 2 ^ 32) → out ≡ plus_rows out 0 f b start
plus_rows-none out f b start small = words_are out (length out) _ refl (λ q h. let s = small q in rw sum_below_none (omega (arith, s)))

-- one more row
pub plus_rows-more : (out : List ℕ) (n : ℕ) (f : ℕ → ℕ) (b : WordMatrix) (start : ℕ) → length out ≡ b.cols
    → plus_scaled (plus_rows out n f b start) (row b (start + n)) (f n) ≡ plus_rows out (n + 1) f b start
plus_rows-more out n f b start wide =
    let before = plus_rows out n f b start in
    let long : length before ≡ length out = plus_rows-length out n f b start in
    words_are (plus_scaled before (row b (start + n)) (f n)) (length out) _ (length-list_of (length before) _ ∙ long) (λ q h.
    let now = at-list_of (length before) (λ j. (slice_index before j + f n * slice_index (row b (start + n)) j) % 2 ^ 32) q (omega (arith, long)) in
    let was = plus_rows-index out n f b start q h in
    let word = row_index b (start + n) q (omega arith) in
    let more = sum_below_more n (λ k. f k * entry b (start + k) q) in
    now ∙ rw word (omega (arith, was, more)))

-- a matrix of which each word is 0
pub zero_matrix_is : (m : WordMatrix) (rows cols : ℕ) → m.rows ≡ rows → m.cols ≡ cols → IsWhole m
    → ((p q : ℕ) → p < rows → q < cols → entry m p q ≡ 0) → m ≡ zero_matrix rows cols
zero_matrix_is m rows cols high wide whole each =
    let n = rows * cols in
    let words : (matrix_of rows cols (λ _ _. 0)).words ≡ replicate n 0 = sym (splat_is_map (range_with_len 0 n) n 0 (length-range_with_len 0 n)) in
    matrix_by_entries m rows cols (λ _ _. 0) high wide whole each ∙ (λ t. record { rows = rows; cols = cols; words = words t })

pub entry-zero_matrix : (rows cols p q : ℕ) → p < rows → q < cols → entry (zero_matrix rows cols) p q ≡ 0
entry-zero_matrix rows cols p q hp hq =
    let fits : p * cols + cols ≤ rows * cols = row_fits p cols rows cols hp (omega arith) in
    get_or-replicate (rows * cols) (p * cols + q) 0 0 (omega (arith, fits))

-- two lists written over a list one after the other, at once or each by itself
put_two : (i j : ℕ) (old xs ys : List ℕ) → i + length xs ≡ j → put_chunk i old (xs ++ ys) ≡ put_chunk j (put_chunk i old xs) ys
put_two i j [] xs ys e = refl
put_two zero zero (w ∷ old) [] ys e = refl
put_two zero (suc j) (w ∷ old) [] ys e = absurd (omega arith)
put_two zero zero (w ∷ old) (x ∷ xs) ys e = absurd (omega arith)
put_two zero (suc j) (w ∷ old) (x ∷ xs) ys e = ap (λ ws. x ∷ ws) (put_two zero j old xs ys (omega arith))
put_two (suc i) zero (w ∷ old) xs ys e = absurd (omega arith)
put_two (suc i) (suc j) (w ∷ old) xs ys e = ap (λ ws. w ∷ ws) (put_two i j old xs ys (omega arith))

-- two rows that are written over at once
module _ (m : WordMatrix) (i : ℕ) (xs ys : List ℕ) (whole : IsWhole m) (inside : i + 1 < m.rows) (x_wide : length xs ≡ m.cols) (y_wide : length ys ≡ m.cols) where
  pub written_row-two : written_row m i (xs ++ ys) ≡ written_row (written_row m i xs) (i + 1) ys
  written_row-two =
      let at = i * m.cols in
      let next : (i + 1) * m.cols ≡ at + m.cols = omega arith in
      let fits : (i + 1) * m.cols + m.cols ≤ m.rows * m.cols = row_fits (i + 1) m.cols m.rows m.cols inside (omega arith) in
      let mid = put_chunk at m.words xs in
      let long : length mid ≡ length m.words = length-put_chunk at m.words xs in
      let once = overwritten_is at (xs ++ ys) m.words (simp length-append (omega (arith, whole, fits, next))) in
      let first = overwritten_is at xs m.words (omega (arith, whole, fits, next)) in
      let second = overwritten_is ((i + 1) * m.cols) ys mid (omega (arith, whole, fits, long)) in
      let both = put_two at ((i + 1) * m.cols) m.words xs ys (omega (arith, next)) in
      let words : (written_row m i (xs ++ ys)).words ≡ (written_row (written_row m i xs) (i + 1) ys).words =
      once ∙ both ∙ sym second ∙ ap (overwritten ((i + 1) * m.cols) ys) (sym first) in
      λ t. record m { words = words t }

  pub row-after_written : row (written_row m i xs) (i + 1) ≡ row m (i + 1)
  row-after_written =
      same-list_of m.cols (λ j. entry (written_row m i xs) (i + 1) j) (λ j. entry m (i + 1) j)
      (λ j h. written_row-other m i xs whole (omega arith) x_wide (i + 1) j (omega arith) h)
