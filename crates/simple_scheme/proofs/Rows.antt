-- A matrix that is written row by row.
use Rattle.std.proofs.Common.{◌≡◌, ℕ, ◌+◌, ◌*◌, ◌<◌, ◌≤◌, ◌∙◌, inl, inr, arith, ap, sym, refl, subst, List, length}
use Rattle.std.specs.Prelude.{slice_index}
use Rattle.std.proofs.lemmas.Bool.{cases_lt}
use Rattle.std.proofs.lemmas.Simd.{length-replicate}
use Rattle.matrix_u32.specs.Sum.{list_of}
use Rattle.matrix_u32.specs.Matrix.{WordMatrix, IsWhole, entry, matrix_of, row, product, vector_times, written_row, zero_matrix}
use Rattle.matrix_u32.proofs.Products.{entry-matrix_of, row-product, same-list_of}
use Rattle.matrix_u32.proofs.Rows.{length-row, row_index, length-written_row, written_row-same, written_row-other}
use Rattle.matrix_u32.proofs.Changes.{matrix_by_entries}
use Rattle.simple_scheme.specs.Blocks.{rows_from}

-- a matrix as large as another, with the same words in the rows before row n
pub record HasRowsOf (a : WordMatrix) (n : ℕ) (m : WordMatrix) : Type 0 where
  pub rows : m.rows ≡ a.rows
  pub cols : m.cols ≡ a.cols
  pub whole : IsWhole m
  pub same : (p q : ℕ) → p < n → q < a.cols → entry m p q ≡ entry a p q

-- no row of a matrix of zeros is written yet
pub no_rows : (a m : WordMatrix) (rows cols : ℕ) → m ≡ zero_matrix rows cols → rows ≡ a.rows → cols ≡ a.cols → HasRowsOf a 0 m
no_rows a m rows cols zeros r c = record {
  rows = ap (λ (x : WordMatrix). x.rows) zeros ∙ r;
  cols = ap (λ (x : WordMatrix). x.cols) zeros ∙ c;
  whole = subst IsWhole (sym zeros) (length-replicate (rows * cols) 0);
  same = λ p q hp hq. absurd (omega arith);
}

-- nor of any matrix as large
pub no_rows_of : (a m : WordMatrix) → m.rows ≡ a.rows → m.cols ≡ a.cols → IsWhole m → HasRowsOf a 0 m
no_rows_of a m high wide whole = record {
  rows = high;
  cols = wide;
  whole = whole;
  same = λ p q hp hq. absurd (omega arith);
}

-- one more row
pub one_row : (a m : WordMatrix) (i n : ℕ) (words : List ℕ) → n ≡ i + 1 → i < a.rows → words ≡ row a i → HasRowsOf a i m →
    HasRowsOf a n (written_row m i words)
one_row a m i n words next below is before =
    let inside : i < m.rows = omega (arith, before.rows) in
    let long : length words ≡ m.cols = ap length is ∙ length-row a i ∙ sym before.cols in
    record {
      rows = before.rows;
      cols = before.cols;
      whole = length-written_row m i words before.whole inside long;
      same = λ p q hp hq.
          let here : q < m.cols = omega (arith, before.cols) in
          elim (cases_lt p i) [
            | inl lt ↦ written_row-other m i words before.whole inside long p q (omega arith) here ∙ before.same p q lt hq
            | inr le ↦
                let e : p ≡ i = omega arith in
                rw e (written_row-same m i words before.whole inside long q here ∙ ap (λ xs. slice_index xs q) is ∙ row_index a i q hq)
          ];
    }

-- all rows
pub all_rows : (rows cols n : ℕ) (f : ℕ → ℕ → ℕ) (m : WordMatrix) → rows ≤ n → HasRowsOf (matrix_of rows cols f) n m → m ≡ matrix_of rows cols f
all_rows rows cols n f m all h =
    matrix_by_entries m rows cols f h.rows h.cols h.whole (λ i j p q. h.same i j (omega arith) q ∙ entry-matrix_of rows cols f i j p q)

-- a row of some rows
pub row-rows_from : (a : WordMatrix) (start count i : ℕ) → i < count → row (rows_from a start count) i ≡ row a (start + i)
row-rows_from a start count i l =
    same-list_of a.cols (λ j. entry (rows_from a start count) i j) (λ j. entry a (start + i) j)
    (λ j h. entry-matrix_of count a.cols (λ i j. entry a (start + i) j) i j l h)

-- a row of the product of some rows
pub row-some_rows : (a b : WordMatrix) (start count i : ℕ) → i < count → start + count ≤ a.rows →
    row (product (rows_from a start count) b) i ≡ row (product a b) (start + i)
row-some_rows a b start count i l inside =
    row-product (rows_from a start count) b i l
    ∙ ap (λ x. vector_times x b) (row-rows_from a start count i l)
    ∙ sym (row-product a b (start + i) (omega arith))

same_row : (a b : WordMatrix) (i : ℕ) → a.cols ≡ b.cols → ((j : ℕ) → j < b.cols → entry a i j ≡ entry b i j) → row a i ≡ row b i
same_row a b i wide each = ap (λ n. list_of n (λ j. entry a i j)) wide ∙ same-list_of b.cols (λ j. entry a i j) (λ j. entry b i j) each

same_entry : (a b : WordMatrix) (i j : ℕ) → a.cols ≡ b.cols → j < b.cols → row a i ≡ row b i → entry a i j ≡ entry b i j
same_entry a b i j wide inside same =
    let here : j < a.cols = omega arith in
    sym (row_index a i j here) ∙ ap (λ xs. slice_index xs j) same ∙ row_index b i j inside

-- a matrix into which rows of another were written, from row `start` to row n, and whose rows
-- before them are as they were
pub record HasRowsPut (old a : WordMatrix) (start n : ℕ) (m : WordMatrix) : Type 0 where
  pub rows : m.rows ≡ old.rows
  pub cols : m.cols ≡ old.cols
  pub whole : IsWhole m
  pub written : (i j : ℕ) → start ≤ i → i < n → j < old.cols → entry m i j ≡ entry a i j
  pub kept : (i j : ℕ) → i < start → j < old.cols → entry m i j ≡ entry old i j

pub none_put : (old a : WordMatrix) (start n : ℕ) → n ≡ start → IsWhole old → HasRowsPut old a start n old
none_put old a start n none whole = record {
  rows = refl;
  cols = refl;
  whole = whole;
  written = λ i j le lt q. absurd (omega arith);
  kept = λ i j lt q. refl;
}

pub one_put : (old a m : WordMatrix) (start i n : ℕ) (words : List ℕ) → n ≡ i + 1 → start ≤ i → i < old.rows → old.cols ≡ a.cols → words ≡ row a i
    → HasRowsPut old a start i m → HasRowsPut old a start n (written_row m i words)
one_put old a m start i n words next from below wide is before =
    let inside : i < m.rows = omega (arith, before.rows) in
    let long : length words ≡ m.cols = ap length is ∙ length-row a i ∙ sym wide ∙ sym before.cols in
    let other = written_row-other m i words before.whole inside long in
    record {
      rows = before.rows;
      cols = before.cols;
      whole = length-written_row m i words before.whole inside long;
      written = λ p q le lt here.
          let in_m : q < m.cols = omega (arith, before.cols) in
          let in_a : q < a.cols = omega arith in
          elim (cases_lt p i) [
            | inl lower ↦ other p q (omega arith) in_m ∙ before.written p q le lower here
            | inr ge ↦
                let e : p ≡ i = omega arith in
                rw e (written_row-same m i words before.whole inside long q in_m ∙ ap (λ xs. slice_index xs q) is ∙ row_index a i q in_a)
          ];
      kept = λ p q lt here. let in_m : q < m.cols = omega (arith, before.cols) in other p q (omega arith) in_m ∙ before.kept p q lt here;
    }

pub put_rows_are : (old a m : WordMatrix) (start n i : ℕ) → old.cols ≡ a.cols → HasRowsPut old a start n m → start ≤ i → i < n → row m i ≡ row a i
put_rows_are old a m start n i wide h le lt =
    same_row m a i (h.cols ∙ wide) (λ j q. let here : j < old.cols = omega arith in h.written i j le lt here)

pub kept_rows_are : (old a m : WordMatrix) (start n i : ℕ) → HasRowsPut old a start n m → i < start → row m i ≡ row old i
kept_rows_are old a m start n i h lt = same_row m old i h.cols (λ j q. h.kept i j lt q)

-- more rows
pub more_rows : (a old new : WordMatrix) (start n : ℕ) → (new.rows ≡ old.rows) × (new.cols ≡ old.cols) × IsWhole new
    → ((i : ℕ) → start ≤ i → i < n → row new i ≡ row a i) → ((i : ℕ) → i < start → row new i ≡ row old i) → HasRowsOf a start old → HasRowsOf a n new
more_rows a old new start n shape written kept before = record {
  rows = shape.0 ∙ before.rows;
  cols = shape.1 ∙ before.cols;
  whole = shape.2;
  same = λ p q hp hq. elim (cases_lt p start) [
    | inl lt ↦
        let in_old : q < old.cols = omega (arith, before.cols) in same_entry new old p q shape.1 in_old (kept p lt) ∙ before.same p q lt hq
    | inr le ↦ same_entry new a p q (shape.1 ∙ before.cols) hq (written p le hp)
  ];
}
