-- Products of matrices that grow: by columns of zeros, and by further rows.
use Rattle.std.proofs.Common.{◌≡◌, ℕ, ◌+◌, ◌*◌, ◌/◌, ◌%◌, ◌^◌, ◌<◌, ◌≤◌, ◌++◌, if◌then◌else◌, nat_lt, arith, ap, ◌∙◌, sym, refl, List, length, take}
use Rattle.std.proofs.lemmas.Nat.{mul-add-lt}
use Rattle.std.proofs.lemmas.Bool.Decides.{nat_tests}
use Rattle.std.proofs.lemmas.List.{get_or-take, get_or_append_left}
use Rattle.std.proofs.Math.Seq.{take-append_seam}
use Rattle.std.specs.Prelude.{slice_index}
use Rattle.matrix_u32.specs.Sum.{dot}
use Rattle.matrix_u32.specs.Matrix.{WordMatrix, IsWhole, entry, row, column, product, entry_or_zero, widened, with_rows, first_rows}
use Rattle.matrix_u32.proofs.Sums.{sum_same, sum_prefix}
use Rattle.matrix_u32.proofs.Products.{at-list_of, same-list_of, dot-list_of, row-matrix_of}
use Rattle.matrix_u32.proofs.Changes.{same-matrix_of}

inside_is : (k n v : ℕ) → k < n → (if nat_lt k n then v else 0) ≡ v
inside_is k n v l = grind (arith, nat_tests)

past_is : (k n v : ℕ) → n ≤ k → (if nat_lt k n then v else 0) ≡ 0
past_is k n v l = grind (arith, nat_tests)

pub product-widened : (d a : WordMatrix) (cols : ℕ) → d.cols ≤ cols → product (widened d cols) a ≡ product d a
product-widened d a cols le =
    same-matrix_of d.rows a.cols (λ i j. dot (row (widened d cols) i) (column a j)) (λ i j. dot (row d i) (column a j)) (λ i j p q.
    let y : List ℕ = column a j in
    let f : ℕ → ℕ = λ k. slice_index y k in
    ap (λ x. dot x y) (row-matrix_of d.rows cols (entry_or_zero d) i p)
    ∙ dot-list_of cols (entry_or_zero d i) f y (λ k l. refl)
    ∙ ap (λ t. t % 2 ^ 32)
    (sum_prefix d.cols cols (λ k. entry_or_zero d i k * f k) le (λ k m l. ap (λ t. t * f k) (past_is k d.cols (entry d i k) m) ∙ omega arith)
    ∙ sum_same d.cols (λ k. entry_or_zero d i k * f k) (λ k. entry d i k * f k) (λ k l. ap (λ t. t * f k) (inside_is k d.cols (entry d i k) l)))
    ∙ sym (dot-list_of d.cols (λ k. entry d i k) f y (λ k l. refl)))

pub entry-first_rows : (a : WordMatrix) (n i j : ℕ) → i < n → j < a.cols → entry (first_rows a n) i j ≡ entry a i j
entry-first_rows a n i j p q = get_or-take (n * a.cols) a.words (i * a.cols + j) 0 (omega (arith, mul-add-lt i a.cols j n p q))

pub product-first_rows : (d a : WordMatrix) (n : ℕ) → d.cols ≤ n → n ≤ a.rows → product d a ≡ product d (first_rows a n)
product-first_rows d a n le fits =
    same-matrix_of d.rows a.cols (λ i j. dot (row d i) (column a j)) (λ i j. dot (row d i) (column (first_rows a n) j)) (λ i j p q.
    let f : ℕ → ℕ = λ k. entry d i k in
    let g : ℕ → ℕ = λ k. entry a k j in
    dot-list_of d.cols f g (column a j) (λ k l. at-list_of a.rows (λ k. entry a k j) k (omega arith))
    ∙ sym (dot-list_of d.cols f g (column (first_rows a n) j)
    (λ k l. at-list_of n (λ k. entry (first_rows a n) k j) k (omega arith) ∙ entry-first_rows a n k j (omega arith) q)))

-- a matrix without the rows that were added to it
pub first_rows-with_rows : (a : WordMatrix) (words : List ℕ) → IsWhole a → first_rows (with_rows a words) a.rows ≡ a
first_rows-with_rows a words whole =
    let same : take (a.rows * a.cols) (a.words ++ words) ≡ a.words = ap (λ n. take n (a.words ++ words)) (sym whole) ∙ take-append_seam a.words words in
    λ t. record { rows = a.rows; cols = a.cols; words = same t }

pub row-with_rows : (a : WordMatrix) (words : List ℕ) (i : ℕ) → IsWhole a → i < a.rows → row (with_rows a words) i ≡ row a i
row-with_rows a words i whole p =
    same-list_of a.cols (λ j. entry (with_rows a words) i j) (λ j. entry a i j) (λ j q.
    get_or_append_left a.words words 0 (i * a.cols + j) (omega (arith, whole, mul-add-lt i a.cols j a.rows p q)))

pub product-grown : (d a : WordMatrix) (cols : ℕ) (words : List ℕ) →
    IsWhole a → d.cols ≤ a.rows → d.cols ≤ cols → product (widened d cols) (with_rows a words) ≡ product d a
product-grown d a cols words whole fits le =
    let longer : WordMatrix = with_rows a words in
    product-widened d longer cols le
    ∙ product-first_rows d longer a.rows fits (omega arith)
    ∙ ap (λ m. product d m) (first_rows-with_rows a words whole)

-- a matrix with as many rows more as its further words are
pub grown_is : (m : WordMatrix) (rows : ℕ) (words more : List ℕ) → rows ≡ length more / m.cols → words ≡ m.words ++ more →
    record { rows = m.rows + rows; cols = m.cols; words = words } ≡ with_rows m more
grown_is m rows words more count is =
    let high : m.rows + rows ≡ m.rows + length more / m.cols = omega (arith, count) in
    λ t. record { rows = high t; cols = m.cols; words = is t }
