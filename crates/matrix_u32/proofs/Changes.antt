-- Transposed products, and products after a change of one word.
use Rattle.std.proofs.Common.{◌≡◌, ◌≢◌, ℕ, zero, suc, ◌+◌, ◌-◌, ◌*◌, ◌%◌, ◌/◌, ◌^◌, ◌<◌, ◌≤◌, arith, ap, ◌∙◌, sym, ⊎_elim, length, get_or-set_same, get_or-set_other}
use Rattle.std.proofs.lemmas.Nat.{div_below, mod_below, same_from_place, div-add-mod'}
use Rattle.std.proofs.lemmas.Bool.{cases_eq}
use Rattle.std.proofs.lemmas.Nat.{mul-add-lt}
use Rattle.std.specs.Prelude.{slice_index}
use Rattle.matrix_u32.specs.Sum.{sum_below, dot}
use Rattle.matrix_u32.specs.Matrix.{WordMatrix, IsWhole, entry, matrix_of, row, column, product, transpose, with_entry}
use Rattle.matrix_u32.specs.Laws.{RowChange}
use Rattle.matrix_u32.proofs.Sums.{sum_same}
use Rattle.matrix_u32.proofs.Products.{matrix_is, at-list_of, same-list_of, entry-product, entry-product_within, entry-product_transposed}

pub some_columns : (k rows cols : ℕ) → k < rows * cols → 0 < cols
some_columns k rows zero l = absurd (omega arith)
some_columns k rows (suc cols) l = omega arith

pub same-matrix_of : (rows cols : ℕ) (f g : ℕ → ℕ → ℕ) → ((i j : ℕ) → i < rows → j < cols → f i j ≡ g i j) → matrix_of rows cols f ≡ matrix_of rows cols g
same-matrix_of rows cols f g h =
    let words : (matrix_of rows cols f).words ≡ (matrix_of rows cols g).words = same-list_of (rows * cols) _ (λ k. g (k / cols) (k % cols)) (λ k l.
    let wide : 0 < cols = some_columns k rows cols l in
    h (k / cols) (k % cols) (div_below k cols rows wide l) (mod_below k cols wide)) in
    λ t. record { rows = rows; cols = cols; words = words t }

pub transpose-product : (d a : WordMatrix) → a.rows ≡ d.cols → transpose (product d a) ≡ product (transpose a) (transpose d)
transpose-product d a e =
    same-matrix_of a.cols d.rows (λ k r. entry (product d a) r k) (λ k r. dot (row (transpose a) k) (column (transpose d) r)) (λ k r p q.
    entry-product d a r k q p ∙ sym (entry-product_transposed a d k r e p q) ∙ entry-product (transpose a) (transpose d) k r p q)

-- a sum of which one term changes
sum_changed : (n j : ℕ) (f g : ℕ → ℕ) → j < n → ((k : ℕ) → k < n → k ≢ j → g k ≡ f k) → sum_below n g + f j ≡ sum_below n f + g j
unfolding sum_below
sum_changed zero j f g l h = absurd (omega arith)
sum_changed (suc n) j f g l h =
    ⊎_elim
    (λ e. omega (arith, sum_same n g f (λ k m. h k (omega arith) (λ x. absurd (omega arith))), ap f e, ap g e))
    (λ d. omega (arith, sum_changed n j f g (omega arith) (λ k m x. h k (omega arith) x), h n (omega arith) d))
    (cases_eq n j)

pub entry_kept : (d : WordMatrix) (i j word r t : ℕ) → j < d.cols → t < d.cols → ¬ ((r ≡ i) × (t ≡ j)) → entry (with_entry d i j word) r t ≡ entry d r t
entry_kept d i j word r t p q apart =
    get_or-set_other d.words (i * d.cols + j) (r * d.cols + t) word 0 (λ e. apart (same_from_place r t i j d.cols q p e))

-- s' is s with v in the place of o, each times m, modulo 2 ^ 32
change_mod : (s s' o v c m : ℕ) → s' + o * m ≡ s + v * m → c + o ≡ 2 ^ 32 → s' % 2 ^ 32 ≡ (s % 2 ^ 32 + (v + c) * m) % 2 ^ 32
change_mod s s' o v c m e w =
    let whole : (c + o) * m ≡ 2 ^ 32 * m = ap (λ t. t * m) w in
    omega (arith, e, whole)

pub row_change : (d a : WordMatrix) (i j word : ℕ) → IsWhole d → d.cols ≤ a.rows → i < d.rows → j < d.cols → entry d i j < 2 ^ 32 → RowChange d a i j word
row_change d a i j word whole e p q small = record {
  same_row = λ k l.
      let inside : i * d.cols + j < length d.words = omega (arith, mul-add-lt i d.cols j d.rows p q) in
      let here : entry (with_entry d i j word) i j ≡ word = get_or-set_same d.words (i * d.cols + j) word 0 inside in
      let sums = sum_changed d.cols j (λ t. entry d i t * entry a t k) (λ t. entry (with_entry d i j word) i t * entry a t k) q
      (λ t m x. ap (λ y. y * entry a t k) (entry_kept d i j word i t q m (λ b. x b.1))) in
      let first = entry-product_within (with_entry d i j word) a i k p l e in
      let second = entry-product_within d a i k p l e in
      first
      ∙ change_mod _ _ (entry d i j) word (2 ^ 32 - entry d i j) (entry a j k) (sums
      ∙ ap (λ y. sum_below d.cols (λ t. entry d i t * entry a t k) + y * entry a j k) here) (omega arith)
      ∙ ap (λ y. (y + (word + (2 ^ 32 - entry d i j)) * entry a j k) % 2 ^ 32) (sym second);
  other_rows = λ r k b x l.
      entry-product_within (with_entry d i j word) a r k b l e
      ∙ ap (λ y. y % 2 ^ 32) (sum_same d.cols _ (λ t. entry d r t * entry a t k)
      (λ t m. ap (λ y. y * entry a t k) (entry_kept d i j word r t q m (λ b. x b.0))))
      ∙ sym (entry-product_within d a r k b l e);
}

pub entry_set : (d : WordMatrix) (i j word : ℕ) → IsWhole d → i < d.rows → j < d.cols → entry (with_entry d i j word) i j ≡ word
entry_set d i j word whole p q =
    let inside : i * d.cols + j < length d.words = omega (arith, mul-add-lt i d.cols j d.rows p q) in
    get_or-set_same d.words (i * d.cols + j) word 0 inside

-- a whole matrix with the right word in each row and column
pub matrix_by_entries : (m : WordMatrix) (rows cols : ℕ) (f : ℕ → ℕ → ℕ) → m.rows ≡ rows → m.cols ≡ cols → IsWhole m →
    ((i j : ℕ) → i < rows → j < cols → entry m i j ≡ f i j) → m ≡ matrix_of rows cols f
matrix_by_entries m rows cols f r c whole h =
    matrix_is m rows cols f r c (whole ∙ ap (λ y. y * m.cols) r ∙ ap (λ y. rows * y) c) (λ k l.
    let wide : 0 < cols = some_columns k rows cols l in
    let split : k / cols * m.cols + k % cols ≡ k = ap (λ y. k / cols * y + k % cols) c ∙ div-add-mod' k cols in
    ap (slice_index m.words) (sym split)
    ∙ h (k / cols) (k % cols) (div_below k cols rows wide l) (mod_below k cols wide)
    ∙ sym (at-list_of (rows * cols) (λ k. f (k / cols) (k % cols)) k l))
