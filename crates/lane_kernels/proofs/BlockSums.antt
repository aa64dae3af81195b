-- Products that are summed by blocks of inner places.
use Rattle.std.proofs.Common.{◌≤◌, ◌≡◌, ℕ, ◌+◌, ◌*◌, ◌%◌, ◌^◌, ◌<◌, ◌++◌, take, drop, inl, inr, arith, ap, ◌∙◌, sym, refl, subst, List, length, slice_index}
use Rattle.std.proofs.lemmas.Bool.{cases_lt}
use Rattle.std.proofs.lemmas.Simd.{length-replicate}
use Rattle.std.proofs.Math.Seq.{take-append_seam, drop-append_seam}
use Rattle.matrix_u32.specs.Sum.{sum_below, dot}
use Rattle.matrix_u32.specs.Matrix.{WordMatrix, IsWhole, entry, row, column, product, zero_matrix, written_row}
use Rattle.matrix_u32.specs.Blocks.{plus_rows}
use Rattle.matrix_u32.proofs.Sums.{sum_below_none, sum_below-add, sum_same}
use Rattle.matrix_u32.proofs.Products.{length-list_of, entry-matrix_of, entry-product_sum}
use Rattle.matrix_u32.proofs.Changes.{matrix_by_entries}
use Rattle.matrix_u32.proofs.Rows.{row_index, length-row, plus_rows-index, plus_rows-length, length-written_row, written_row-same, written_row-other, written_row-two, row-after_written, entry-zero_matrix}
use Rattle.lane_kernels.specs.Rows.{AddedBelow, plus_products}

pub added_none : (old a b : WordMatrix) (start count : ℕ) → IsWhole old → AddedBelow old a b start count 0 old
added_none old a b start count whole = record {
  rows = refl;
  cols = refl;
  whole = whole;
  done = λ p q hp hq. absurd (omega arith);
  rest = λ p q le hp hq. refl;
}

-- one more row of a block
pub added_row : (old a b m : WordMatrix) (start count i : ℕ) (f : ℕ → ℕ) (words : List ℕ) → i < old.rows
    → ((k : ℕ) → k < count → f k ≡ entry a i (start + k))
    → words ≡ plus_rows (row m i) count f b start
    → AddedBelow old a b start count i m → AddedBelow old a b start count (i + 1) (written_row m i words)
added_row old a b m start count i f words below factors is so_far =
    let inside : i < m.rows = omega (arith, so_far.rows) in
    let same : m.cols ≡ old.cols = so_far.cols in
    let long : length words ≡ m.cols = ap length is ∙ plus_rows-length (row m i) count f b start ∙ length-row m i in
    let word : (q : ℕ) → q < old.cols → entry (written_row m i words) i q
    ≡ (entry old i q + sum_below count (λ k. entry a i (start + k) * entry b (start + k) q)) % 2 ^ 32 =
    λ q h.
    let here : q < m.cols = omega arith in
    let new = written_row-same m i words so_far.whole inside long q here in
    let sum = ap (λ xs. slice_index xs q) is ∙ plus_rows-index (row m i) count f b start q (omega (arith, length-row m i)) in
    let was = row_index m i q here ∙ so_far.rest i q (omega arith) below h in
    let each = sum_same count (λ k. f k * entry b (start + k) q) (λ k. entry a i (start + k) * entry b (start + k) q)
    (λ k p. ap (λ n. n * entry b (start + k) q) (factors k p)) in
    new ∙ sum ∙ omega (arith, was, each) in
    record {
      rows = so_far.rows;
      cols = same;
      whole = length-written_row m i words so_far.whole inside long;
      done = λ p q hp hq. elim (cases_lt p i) [
        | inl lt ↦ written_row-other m i words so_far.whole inside long p q (omega arith) (omega arith) ∙ so_far.done p q lt hq
        | inr le ↦ let e : p ≡ i = omega arith in rw e (word q hq)
      ];
      rest = λ p q le hp hq. written_row-other m i words so_far.whole inside long p q (omega arith) (omega arith) ∙ so_far.rest p q (omega arith) hp hq;
    }

-- two more rows of a block, at once
pub added_pair : (old a b m : WordMatrix) (start count i : ℕ) (f g : ℕ → ℕ) (words : List ℕ) → i + 1 < old.rows
    → ((k : ℕ) → k < count → f k ≡ entry a i (start + k)) → ((k : ℕ) → k < count → g k ≡ entry a (i + 1) (start + k))
    → words ≡ plus_rows (row m i) count f b start ++ plus_rows (row m (i + 1)) count g b start
    → AddedBelow old a b start count i m → AddedBelow old a b start count (i + 1 + 1) (written_row m i words)
added_pair old a b m start count i f g words below first second is so_far =
    let xs = plus_rows (row m i) count f b start in
    let ys = plus_rows (row m (i + 1)) count g b start in
    let mid = written_row m i xs in
    let inside : i + 1 < m.rows = omega (arith, so_far.rows) in
    let x_wide : length xs ≡ m.cols = plus_rows-length (row m i) count f b start ∙ length-row m i in
    let y_wide : length ys ≡ m.cols = plus_rows-length (row m (i + 1)) count g b start ∙ length-row m (i + 1) in
    let after : row mid (i + 1) ≡ row m (i + 1) = row-after_written m i xs ys so_far.whole inside x_wide y_wide in
    let one = added_row old a b m start count i f xs (omega arith) first refl so_far in
    let two = added_row old a b mid start count (i + 1) g ys below second (ap (λ r. plus_rows r count g b start) (sym after)) one in
    let same : written_row mid (i + 1) ys ≡ written_row m i words =
    sym (ap (written_row m i) is ∙ written_row-two m i xs ys so_far.whole inside x_wide y_wide) in
    subst (AddedBelow old a b start count (i + 1 + 1)) same two

-- the two rows that are lent at once, parted again
pub first_of_pair : (m : WordMatrix) (i cols : ℕ) → cols ≡ m.cols → take cols (row m i ++ row m (i + 1)) ≡ row m i
first_of_pair m i cols e =
    let long : cols ≡ length (row m i) = e ∙ sym (length-row m i) in
    rw long (take-append_seam (row m i) (row m (i + 1)))

pub second_of_pair : (m : WordMatrix) (i cols : ℕ) → cols ≡ m.cols → drop cols (row m i ++ row m (i + 1)) ≡ row m (i + 1)
second_of_pair m i cols e =
    let long : cols ≡ length (row m i) = e ∙ sym (length-row m i) in
    rw long (drop-append_seam (row m i) (row m (i + 1)))

-- all rows of a block
pub added_all : (old a b m : WordMatrix) (start count i : ℕ) → old.rows ≤ i → AddedBelow old a b start count i m → m ≡ plus_products old a b start count
added_all old a b m start count i all so_far =
    matrix_by_entries m old.rows old.cols _ so_far.rows so_far.cols so_far.whole (λ p q hp hq. so_far.done p q (omega arith) hq)

-- the words of the product of a and b so far, summed over the inner places before `start`
pub record SoFar (a b m : WordMatrix) (start : ℕ) : Type 0 where
  pub rows : m.rows ≡ a.rows
  pub cols : m.cols ≡ b.cols
  pub whole : IsWhole m
  pub each : (p q : ℕ) → p < a.rows → q < b.cols → entry m p q ≡ sum_below start (λ k. entry a p k * entry b k q) % 2 ^ 32

-- nothing is summed yet
pub zero_so_far : (a b : WordMatrix) → SoFar a b (zero_matrix a.rows b.cols) 0
zero_so_far a b = record {
  rows = refl;
  cols = refl;
  whole = length-replicate (a.rows * b.cols) 0;
  each = λ p q hp hq. rw sum_below_none (entry-zero_matrix a.rows b.cols p q hp hq);
}

-- one more block
pub block_more : (a b m new : WordMatrix) (start count : ℕ) → new ≡ plus_products m a b start count → SoFar a b m start → SoFar a b new (start + count)
block_more a b m new start count is so_far = record {
  rows = ap (λ (x : WordMatrix). x.rows) is ∙ so_far.rows;
  cols = ap (λ (x : WordMatrix). x.cols) is ∙ so_far.cols;
  whole = subst IsWhole (sym is) (length-list_of (m.rows * m.cols) _);
  each = λ p q hp hq.
      let now = ap (λ (x : WordMatrix). entry x p q) is
      ∙ entry-matrix_of m.rows m.cols (λ i j. (entry m i j + sum_below count (λ k. entry a i (start + k) * entry b (start + k) j)) % 2 ^ 32) p q
      (omega (arith, so_far.rows)) (omega (arith, so_far.cols)) in
      let was = so_far.each p q hp hq in
      let more = sum_below-add start count (λ k. entry a p k * entry b k q) in
      now ∙ omega (arith, was, more);
}

-- all blocks
pub blocks_end : (a b m : WordMatrix) (start : ℕ) → start ≡ a.cols → a.cols ≡ b.rows → SoFar a b m start → m ≡ product a b
blocks_end a b m start all fits so_far =
    matrix_by_entries m a.rows b.cols (λ i j. dot (row a i) (column b j)) so_far.rows so_far.cols so_far.whole (λ p q hp hq.
    rw all at (so_far.each p q hp hq)
    ∙ sym (entry-product_sum a b p q hp hq fits)
    ∙ entry-matrix_of a.rows b.cols (λ i j. dot (row a i) (column b j)) p q hp hq)
