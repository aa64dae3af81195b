-- Laws of dot products and of the entries of a matrix.
use Rattle.std.proofs.Common.{take, drop, below_more, get_or-set_same, get_or-set_other, ◌-◌, ⊎_elim, subst, ◌≤◌, ◌≡◌, ℕ, zero, suc, ◌+◌, ◌*◌, ◌%◌, ◌/◌, ◌^◌, ◌<◌, arith, ap, ◌∙◌, sym, refl, List, length, get_or, mul_comm}
use Rattle.std.proofs.lemmas.Nat.{mul-mod_first, mul-mod_second, mul-add-lt, div-mul-add, mod-mul-add}
use Rattle.std.proofs.lemmas.Bool.{cases_lt}
use Rattle.std.proofs.lemmas.List.{get_or_past, get_or-take, get_or-drop, length-take, length-drop}
use Rattle.std.proofs.lemmas.List.FromFn.{get_or-map-range_with_len, length-map-range_with_len, fill_by_all}
use Rattle.std.specs.Prelude.{slice_index, slice_set}
use Rattle.matrix_u32.specs.Sum.{sum_below, list_of, dot}
use Rattle.matrix_u32.specs.Matrix.{WordMatrix, entry, matrix_of, row, column, product, times_vector, vector_times, transpose}
use Rattle.matrix_u32.proofs.Sums.{sum_same, sum_scale, sum_scale_right, sum_swap, sum_congruent, sum_prefix}

pub length-list_of : {X : Type 0} (n : ℕ) (f : ℕ → X) → length (list_of n f) ≡ n
length-list_of n f = length-map-range_with_len f 0 n

pub at-list_of_any : {X : Type 0} (n : ℕ) (f : ℕ → X) (k : ℕ) (d : X) → k < n → get_or (list_of n f) k d ≡ f k
at-list_of_any n f k d h = get_or-map-range_with_len f 0 n k k d h (omega arith)

pub at-list_of : (n : ℕ) (f : ℕ → ℕ) (k : ℕ) → k < n → slice_index (list_of n f) k ≡ f k
at-list_of n f k h = get_or-map-range_with_len f 0 n k k 0 h (omega arith)

pub entry-matrix_of : (rows cols : ℕ) (f : ℕ → ℕ → ℕ) (i j : ℕ) → i < rows → j < cols → entry (matrix_of rows cols f) i j ≡ f i j
entry-matrix_of rows cols f i j p q =
    at-list_of (rows * cols) (λ k. f (k / cols) (k % cols)) (i * cols + j) (omega (arith, mul-add-lt i cols j rows p q))
    ∙ ap (λ a. f a ((i * cols + j) % cols)) (div-mul-add i cols j q)
    ∙ ap (λ b. f i b) (mod-mul-add i cols j q)

-- the dot product with a list that a function gives
pub dot-list_of : (n : ℕ) (f g : ℕ → ℕ) (y : List ℕ) → ((k : ℕ) → k < n → slice_index y k ≡ g k) → dot (list_of n f) y ≡ sum_below n (λ k. f k * g k) % 2 ^ 32
unfolding dot
dot-list_of n f g y h =
    rw (length-list_of n f)
    (ap (λ t. t % 2 ^ 32) (sum_same n _ (λ k. f k * g k) (λ k l. ap (λ t. t * slice_index y k) (at-list_of n f k l) ∙ ap (λ t. f k * t) (h k l))))

pub dot-list : (x y : List ℕ) → dot x y ≡ sum_below (length x) (λ k. slice_index x k * slice_index y k) % 2 ^ 32
unfolding dot
dot-list x y = refl

-- the sum of x k (a k j) (s j) over all k and j, summed one way or the other, with a reduction
-- after the inner sum
pub both_ways : (n m : ℕ) (x : ℕ → ℕ) (a : ℕ → ℕ → ℕ) (s : ℕ → ℕ) →
    sum_below m (λ j. (sum_below n (λ k. x k * a k j) % 2 ^ 32) * s j) % 2 ^ 32 ≡ sum_below n (λ k. x k * (sum_below m (λ j. a k j * s j) % 2 ^ 32)) % 2 ^ 32
both_ways n m x a s =
    sum_congruent m _ (λ j. sum_below n (λ k. x k * a k j * s j)) (λ j _. mul-mod_first _ _ _
    ∙ ap (λ t. t % 2 ^ 32) (sym (sum_scale_right n (s j) (λ k. x k * a k j))))
    ∙ ap (λ t. t % 2 ^ 32) (sum_swap m n (λ j k. x k * a k j * s j))
    ∙ sym (sum_congruent n _ (λ k. sum_below m (λ j. x k * a k j * s j)) (λ k _.
    mul-mod_second _ _ _ ∙ ap (λ t. t % 2 ^ 32) (sym (sum_scale m (x k) (λ j. a k j * s j)) ∙ sum_same m _ _ (λ j _. omega arith))))

pub same-list_of : {X : Type 0} (n : ℕ) (f g : ℕ → X) → ((k : ℕ) → k < n → f k ≡ g k) → list_of n f ≡ list_of n g
same-list_of zero f g h = refl
same-list_of (suc n) f g h =
    let d : _ = f 0 in
    fill_by_all g (list_of (suc n) f) (suc n) d (length-list_of (suc n) f) (λ k l. at-list_of_any (suc n) f k d l ∙ h k l)

pub row-matrix_of : (rows cols : ℕ) (f : ℕ → ℕ → ℕ) (i : ℕ) → i < rows → row (matrix_of rows cols f) i ≡ list_of cols (f i)
row-matrix_of rows cols f i p = same-list_of cols _ (f i) (λ j q. entry-matrix_of rows cols f i j p q)

pub column-matrix_of : (rows cols : ℕ) (f : ℕ → ℕ → ℕ) (j : ℕ) → j < cols → column (matrix_of rows cols f) j ≡ list_of rows (λ i. f i j)
column-matrix_of rows cols f j q = same-list_of rows _ (λ i. f i j) (λ i p. entry-matrix_of rows cols f i j p q)

-- a list is the list of its elements
pub list_of-at : (x : List ℕ) (n : ℕ) → length x ≡ n → list_of n (λ k. slice_index x k) ≡ x
list_of-at x n e = sym (fill_by_all (λ k. slice_index x k) x n 0 e (λ k l. refl))

pub dot-lists_of : (n : ℕ) (f g : ℕ → ℕ) → dot (list_of n f) (list_of n g) ≡ sum_below n (λ k. f k * g k) % 2 ^ 32
dot-lists_of n f g = dot-list_of n f g (list_of n g) (λ k l. at-list_of n g k l)

-- x (a s) = (x a) s, if x has as many words as a has rows
pub dot-times_vector : (x : List ℕ) (a : WordMatrix) (s : List ℕ) → length x ≡ a.rows → dot x (times_vector a s) ≡ dot (vector_times x a) s
dot-times_vector x a s e =
    ap (λ y. dot y (times_vector a s)) (sym (list_of-at x a.rows e))
    ∙ dot-lists_of a.rows (λ k. slice_index x k) (λ k. dot (row a k) s)
    ∙ ap (λ t. t % 2 ^ 32) (sum_same a.rows _ _
    (λ k _. ap (λ t. slice_index x k * t) (dot-list_of a.cols (λ j. entry a k j) (λ j. slice_index s j) s (λ j _. refl))))
    ∙ sym (both_ways a.rows a.cols (λ k. slice_index x k) (λ k j. entry a k j) (λ j. slice_index s j))
    ∙ ap (λ t. t % 2 ^ 32) (sum_same a.cols _ _ (λ j _. ap (λ t. t * slice_index s j)
    (sym (dot-lists_of a.rows (λ k. slice_index x k) (λ k. entry a k j)) ∙ ap (λ y. dot y (column a j)) (list_of-at x a.rows e))))
    ∙ sym (dot-list_of a.cols (λ j. dot x (column a j)) (λ j. slice_index s j) s (λ j _. refl))

-- a row of a product is that row of the left matrix times the right one
pub row-product : (a b : WordMatrix) (i : ℕ) → i < a.rows → row (product a b) i ≡ vector_times (row a i) b
row-product a b i p = row-matrix_of a.rows b.cols (λ i j. dot (row a i) (column b j)) i p

pub product_assoc : (a b : WordMatrix) (s : List ℕ) → a.cols ≡ b.rows → times_vector (product a b) s ≡ times_vector a (times_vector b s)
product_assoc a b s e =
    same-list_of a.rows _ _ (λ i p. ap (λ r. dot r s) (row-product a b i p)
    ∙ sym (dot-times_vector (row a i) b s (length-list_of a.cols (λ j. entry a i j) ∙ e)))

-- the dot product of a list with a list that a function gives
pub dot-with-list_of : (x : List ℕ) (n : ℕ) (g : ℕ → ℕ) → length x ≡ n → dot x (list_of n g) ≡ sum_below n (λ k. slice_index x k * g k) % 2 ^ 32
dot-with-list_of x n g e = ap (λ y. dot y (list_of n g)) (sym (list_of-at x n e)) ∙ dot-lists_of n (λ k. slice_index x k) g

-- what holds of each value and of the default holds at each place
pub each-list_of : {X : Type 0} (P : X → Type 0) (n : ℕ) (f : ℕ → X) (d : X) → P d → ((k : ℕ) → P (f k)) → (k : ℕ) → P (get_or (list_of n f) k d)
each-list_of P n f d z h k =
    ⊎_elim
    (λ l. subst P (sym (at-list_of_any n f k d l)) (h k))
    (λ g. subst P (sym (get_or_past (list_of n f) k d (rw (length-list_of n f) g))) z)
    (cases_lt k n)

pub dot_comm : (n : ℕ) (f g : ℕ → ℕ) → dot (list_of n f) (list_of n g) ≡ dot (list_of n g) (list_of n f)
dot_comm n f g =
    dot-lists_of n f g ∙ ap (λ t. t % 2 ^ 32) (sum_same n _ (λ k. g k * f k) (λ k _. mul_comm (f k) (g k))) ∙ sym (dot-lists_of n g f)

pub row-transpose : (a : WordMatrix) (k : ℕ) → k < a.cols → row (transpose a) k ≡ column a k
row-transpose a k p = row-matrix_of a.cols a.rows (λ i j. entry a j i) k p

pub column-transpose : (a : WordMatrix) (i : ℕ) → i < a.rows → column (transpose a) i ≡ row a i
column-transpose a i p = column-matrix_of a.cols a.rows (λ i j. entry a j i) i p

pub entry-product : (a b : WordMatrix) (i j : ℕ) → i < a.rows → j < b.cols → entry (product a b) i j ≡ dot (row a i) (column b j)
entry-product a b i j p q = entry-matrix_of a.rows b.cols (λ i j. dot (row a i) (column b j)) i j p q

-- an entry of a product of transposed matrices
pub entry-product_transposed_within : (a d : WordMatrix) (k r : ℕ) → d.cols ≤ a.rows → k < a.cols → r < d.rows →
    entry (product (transpose a) (transpose d)) k r ≡ dot (row d r) (column a k)
entry-product_transposed_within a d k r e p q =
    let f : ℕ → ℕ = λ i. entry a i k in
    let x : List ℕ = row d r in
    let long : length x ≡ d.cols = length-list_of d.cols (λ j. entry d r j) in
    entry-product (transpose a) (transpose d) k r p q
    ∙ ap (λ y. dot y (column (transpose d) r)) (row-transpose a k p)
    ∙ ap (λ y. dot (column a k) y) (column-transpose d r q)
    ∙ dot-list_of a.rows f (λ i. slice_index x i) x (λ i l. refl)
    ∙ ap (λ t. t % 2 ^ 32)
    (sum_prefix d.cols a.rows (λ i. f i * slice_index x i) e (λ i m l. ap (λ y. f i * y) (get_or_past x i 0 (omega (arith, long))) ∙ omega arith)
    ∙ sum_same d.cols (λ i. f i * slice_index x i) (λ i. entry d r i * f i)
    (λ i l. ap (λ y. f i * y) (at-list_of d.cols (λ j. entry d r j) i l) ∙ mul_comm (f i) (entry d r i)))
    ∙ sym (dot-list_of d.cols (λ i. entry d r i) f (column a k) (λ i l. at-list_of a.rows f i (omega arith)))

pub entry-product_transposed : (a d : WordMatrix) (k r : ℕ) → a.rows ≡ d.cols → k < a.cols → r < d.rows →
    entry (product (transpose a) (transpose d)) k r ≡ dot (row d r) (column a k)
entry-product_transposed a d k r e p q = entry-product_transposed_within a d k r (omega arith) p q

pub dot-lt : (x y : List ℕ) → dot x y < 2 ^ 32
unfolding dot
dot-lt x y = omega arith

-- a piece of a list of words, as `&words[i..i + n]` gives it
pub piece-list_of : (words : List ℕ) (i n : ℕ) → i + n ≤ length words → take (i + n - i) (drop i words) ≡ list_of n (λ j. slice_index words (i + j))
piece-list_of words i n h =
    fill_by_all (λ j. slice_index words (i + j)) (take (i + n - i) (drop i words)) n 0
    (length-take (i + n - i) (drop i words) ∙ omega (arith, length-drop i words))
    (λ k l. get_or-take (i + n - i) (drop i words) k 0 (omega arith) ∙ get_or-drop i words k 0)

-- a list with the right word at each place
pub words_are : (words : List ℕ) (n : ℕ) (f : ℕ → ℕ) → length words ≡ n → ((k : ℕ) → k < n → slice_index words k ≡ f k) → words ≡ list_of n f
words_are words n f e h = fill_by_all f words n 0 e h

-- an entry of a product as a sum
pub entry-product_within : (a b : WordMatrix) (i j : ℕ) → i < a.rows → j < b.cols → a.cols ≤ b.rows →
    entry (product a b) i j ≡ sum_below a.cols (λ k. entry a i k * entry b k j) % 2 ^ 32
entry-product_within a b i j p q e =
    entry-product a b i j p q
    ∙ dot-list_of a.cols (λ k. entry a i k) (λ k. entry b k j) (column b j) (λ k l. at-list_of b.rows (λ i. entry b i j) k (omega arith))

pub entry-product_sum : (a b : WordMatrix) (i j : ℕ) → i < a.rows → j < b.cols → a.cols ≡ b.rows →
    entry (product a b) i j ≡ sum_below a.cols (λ k. entry a i k * entry b k j) % 2 ^ 32
entry-product_sum a b i j p q e = entry-product_within a b i j p q (omega arith)

-- a matrix with the right word at each place
pub matrix_is : (m : WordMatrix) (rows cols : ℕ) (f : ℕ → ℕ → ℕ) → m.rows ≡ rows → m.cols ≡ cols → length m.words ≡ rows * cols →
    ((k : ℕ) → k < rows * cols → slice_index m.words k ≡ slice_index (matrix_of rows cols f).words k) → m ≡ matrix_of rows cols f
matrix_is m rows cols f r c e h =
    let words : m.words ≡ (matrix_of rows cols f).words =
    words_are m.words (rows * cols) (λ k. f (k / cols) (k % cols)) e (λ k l. h k l ∙ at-list_of (rows * cols) (λ k. f (k / cols) (k % cols)) k l) in
    λ t. record { rows = r t; cols = c t; words = words t }

-- a list that is filled from its prefix, after one more word
pub filled_more : (out : List ℕ) (t v : ℕ) (f : ℕ → ℕ) → t < length out → v ≡ f t → ((k : ℕ) → k < t → slice_index out k ≡ f k) →
    (k : ℕ) → k < t + 1 → slice_index (slice_set out t v) k ≡ f k
filled_more out t v f l e h = below_more _ t (λ k m. get_or-set_other out t k v 0 (omega arith) ∙ h k m) (get_or-set_same out t v 0 l ∙ e)
