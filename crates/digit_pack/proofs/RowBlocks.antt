-- Some rows of a matrix, as words that are packed, and their products.
use Rattle.std.proofs.Common.{◌≡◌, ℕ, ◌+◌, ◌*◌, ◌/◌, ◌%◌, ◌<◌, ◌≤◌, arith, ap, ◌∙◌, sym, take, drop, List, mul-le-mul_right}
use Rattle.std.proofs.lemmas.List.{get_or-take, get_or-drop}
use Rattle.std.specs.Prelude.{slice_index}
use Rattle.matrix_u32.specs.Sum.{dot}
use Rattle.matrix_u32.specs.Matrix.{row, times_vector}
use Rattle.matrix_u32.proofs.Products.{same-list_of, row-matrix_of}
use Rattle.lane_kernels.specs.Digit.{digit}
use Rattle.lane_kernels.specs.Packed.{packed_cols, unpacked}
use Rattle.digit_pack.specs.Products.{rows_times_vector}
use Rattle.digit_pack.proofs.Triples.{place_inside}

-- rows from one on end where the words of all rows do, or before
pub rows_end : (rows first count each : ℕ) → first + count ≤ rows → first * each + count * each ≤ rows * each
rows_end rows first count each h = omega (arith, mul-le-mul_right each h)

-- the words of rows from one on
abbrev pub words_of_rows : ℕ → ℕ → ℕ → List ℕ → List ℕ
words_of_rows cols first count words = take (count * packed_cols cols) (drop (first * packed_cols cols) words)

word_of_rows : (cols first count : ℕ) (words : List ℕ) (i j : ℕ) → i < count → j < cols →
    slice_index (words_of_rows cols first count words) (i * packed_cols cols + j / 3) ≡ slice_index words ((first + i) * packed_cols cols + j / 3)
word_of_rows cols first count words i j p q =
    get_or-take (count * packed_cols cols) (drop (first * packed_cols cols) words) (i * packed_cols cols + j / 3) 0 (place_inside count cols i j p q)
    ∙ get_or-drop (first * packed_cols cols) words (i * packed_cols cols + j / 3) 0
    ∙ ap (slice_index words) (omega arith)

row_of_rows : (rows cols first count : ℕ) (words : List ℕ) (i : ℕ) → first + count ≤ rows → i < count →
    row (unpacked count cols (words_of_rows cols first count words)) i ≡ row (unpacked rows cols words) (first + i)
row_of_rows rows cols first count words i h p =
    row-matrix_of count cols (λ i j. digit 10 (slice_index (words_of_rows cols first count words) (i * packed_cols cols + j / 3)) (j % 3)) i p
    ∙ same-list_of cols (λ j. digit 10 (slice_index (words_of_rows cols first count words) (i * packed_cols cols + j / 3)) (j % 3))
    (λ j. digit 10 (slice_index words ((first + i) * packed_cols cols + j / 3)) (j % 3))
    (λ j q. ap (λ w. digit 10 w (j % 3)) (word_of_rows cols first count words i j p q))
    ∙ sym (row-matrix_of rows cols (λ i j. digit 10 (slice_index words (i * packed_cols cols + j / 3)) (j % 3)) (first + i) (omega (arith, h, p)))

-- the products of these rows are those of the matrix
pub product_of_rows : (rows cols first count : ℕ) (words : List ℕ) (x : List ℕ) → first + count ≤ rows →
    times_vector (unpacked count cols (words_of_rows cols first count words)) x ≡ rows_times_vector (unpacked rows cols words) x first count
product_of_rows rows cols first count words x h =
    same-list_of count (λ i. dot (row (unpacked count cols (words_of_rows cols first count words)) i) x)
    (λ i. dot (row (unpacked rows cols words) (first + i)) x)
    (λ i p. ap (λ r. dot r x) (row_of_rows rows cols first count words i h p))
