-- Answers, put together from their parts.
use Rattle.std.proofs.Common.{◌≡◌, ◌≢◌, inl, inr, add_assoc, mul_comm, ℕ, zero, suc, ◌+◌, ◌*◌, ◌/◌, ◌%◌, ◌<◌, ◌++◌, arith, ap, ◌∙◌, sym, refl, List, [], length, append_assoc, add-one, append-nil}
use Rattle.std.proofs.lemmas.Nat.{div-mul-add, mod-mul-add}
use Rattle.std.proofs.lemmas.Bool.{cases_lt}
use Rattle.std.proofs.Math.Nat.{mod-lt, div-add-mod, add-mul}
use Rattle.std.specs.Prelude.{slice_index, flat_map}
use Rattle.std.specs.List.{range_with_len}
use Rattle.matrix_u32.specs.Sum.{dot, list_of}
use Rattle.matrix_u32.specs.Matrix.{WordMatrix, entry, matrix_of, row, column, product, transpose, times_vector}
use Rattle.matrix_u32.proofs.Changes.{same-matrix_of, matrix_by_entries}
use Rattle.matrix_u32.proofs.Products.{at-list_of, list_of-at, same-list_of, dot_comm, column-transpose, length-list_of, entry-matrix_of, row-matrix_of}
use Rattle.lane_kernels.specs.Digit.{digit, split_count, split_words}
use Rattle.digit_pack.specs.Digits.{decomposed, decomposed_at}
use Rattle.double_scheme.specs.Double.{one_row, one_column}

-- one part more
pub parts_more : (f : ℕ → List ℕ) (a n : ℕ) → flat_map f (range_with_len a (suc n)) ≡ flat_map f (range_with_len a n) ++ f (a + n)
parts_more f a zero =
    let e : a + 0 ≡ a = omega arith in
    append-nil (f a) ∙ sym (ap f e)
parts_more f a (suc n) =
    let e : a + 1 + n ≡ a + suc n = omega arith in
    ap (λ l. f a ++ l) (parts_more f (a + 1) n) ∙ sym (append_assoc (f a) (flat_map f (range_with_len (a + 1) n)) (f (a + 1 + n)))
    ∙ ap (λ k. flat_map f (range_with_len a (suc n)) ++ f k) e

pub one_part : (f : ℕ → List ℕ) (prefix : List ℕ) (n : ℕ) → (prefix ++ flat_map f (range_with_len 0 n)) ++ f n ≡ prefix ++ flat_map f (range_with_len 0 (n + 1))
one_part f prefix n =
    append_assoc prefix (flat_map f (range_with_len 0 n)) (f n)
    ∙ ap (λ l. prefix ++ l) (ap (λ k. flat_map f (range_with_len 0 n) ++ f k) (omega arith) ∙ sym (parts_more f 0 n)
    ∙ ap (λ k. flat_map f (range_with_len 0 k)) (sym (add-one n)))

-- blocks that are the same, one by one
pub same_parts : (n : ℕ) (f g : ℕ → List ℕ) → ((k : ℕ) → k < n → f k ≡ g k) → flat_map f (range_with_len 0 n) ≡ flat_map g (range_with_len 0 n)
same_parts zero f g h = refl
same_parts (suc n) f g h =
    parts_more f 0 n
    ∙ ap (λ l. l ++ f (0 + n)) (same_parts n f g (λ k l. h k (omega (arith, l))))
    ∙ ap (λ l. flat_map g (range_with_len 0 n) ++ l) (h (0 + n) (omega arith))
    ∙ sym (parts_more g 0 n)

-- two parts more
pub two_parts : (f : ℕ → List ℕ) (n : ℕ) → flat_map f (range_with_len 0 n) ++ (f n ++ f (n + 1)) ≡ flat_map f (range_with_len 0 (n + 2))
two_parts f n =
    let next : n + 1 + 1 ≡ n + 2 = omega arith in
    sym (append_assoc (flat_map f (range_with_len 0 n)) (f n) (f (n + 1)))
    ∙ ap (λ (ws : List ℕ). ws ++ f (n + 1)) (one_part f [] n)
    ∙ one_part f [] (n + 1)
    ∙ ap (λ k. flat_map f (range_with_len 0 k)) next

div_small : (t k : ℕ) → t < k → t / k ≡ 0
div_small t k l =
    let e : t ≡ 0 * k + t = omega arith in
    ap (λ n. n / k) e ∙ div-mul-add 0 k t l

mod_small : (t k : ℕ) → t < k → t % k ≡ t
mod_small t k l =
    let e : t ≡ 0 * k + t = omega arith in
    ap (λ n. n % k) e ∙ mod-mul-add 0 k t l

-- the row after has digits of the same column, if it isn't the first of its column
pub same_column : (r n : ℕ) → 0 < n → (r + 1) % n ≢ 0 → (r + 1) / n ≡ r / n
same_column r n some inside =
    let q : ℕ = r / n in
    let t : ℕ = r % n in
    let below : t < n = mod-lt r some in
    let whole : r ≡ q * n + t = sym (div-add-mod r n) ∙ ap (λ k. k + t) (mul_comm n q) in
    elim (cases_lt (t + 1) n) [
      | inl lt ↦ ap (λ k. k / n) (ap (λ k. k + 1) whole ∙ add_assoc (q * n) t 1) ∙ div-mul-add q n (t + 1) lt
      | inr le ↦
          let last : t + 1 ≡ n = omega arith in
          let next : r + 1 ≡ (q + 1) * n + 0 = omega (arith, whole, last, add-mul q 1 n) in
          absurd (inside (ap (λ k. k % n) next ∙ mod-mul-add (q + 1) n 0 some))
    ]

-- a row of the digits of columns
pub digits_of_column : (w r : ℕ) (a : WordMatrix) → r < a.cols * split_count w → r / split_count w < a.cols →
    split_words w (r % split_count w) (column a (r / split_count w)) ≡ row (decomposed w (transpose a)) r
digits_of_column w r a inside low =
    let n : ℕ = split_count w in
    let c : List ℕ = column a (r / n) in
    ap (λ k. list_of k (λ j. digit w (slice_index c j) (r % n))) (length-list_of a.rows (λ i. entry a i (r / n)))
    ∙ same-list_of a.rows (λ j. digit w (slice_index c j) (r % n)) (decomposed_at w (transpose a) r) (λ j h.
    ap (λ x. digit w x (r % n)) (at-list_of a.rows (λ i. entry a i (r / n)) j h
    ∙ sym (entry-matrix_of a.cols a.rows (λ i j. entry a j i) (r / n) j low h)))
    ∙ sym (row-matrix_of (a.cols * n) a.rows (decomposed_at w (transpose a)) r inside)

-- the digits of words, a row for each place of a digit, are those of the words as a column, read
-- across
pub digits_across : (w : ℕ) (words : List ℕ) →
    matrix_of (split_count w) (length words) (λ t j. digit w (slice_index words j) t) ≡ decomposed w (transpose (one_column words))
digits_across w words =
    let k : ℕ = split_count w in
    let n : ℕ = length words in
    let one : 1 * k ≡ k = omega arith in
    matrix_by_entries (matrix_of k n (λ t j. digit w (slice_index words j) t)) (1 * k) n (decomposed_at w (transpose (one_column words)))
    (sym one) refl (length-list_of (k * n) _) (λ t j p q.
    let low : t < k = omega (arith, one) in
    let here : entry (transpose (one_column words)) 0 j ≡ slice_index words j =
    entry-matrix_of 1 n (λ i j. entry (one_column words) j i) 0 j (omega arith) q ∙ ap (slice_index words) (omega arith) in
    entry-matrix_of k n (λ t j. digit w (slice_index words j) t) t j low q
    ∙ ap (λ x. digit w x t) (sym here)
    ∙ ap (λ r. digit w (entry (transpose (one_column words)) r j) t) (sym (div_small t k low))
    ∙ ap (λ r. digit w (entry (transpose (one_column words)) (t / k) j) r) (sym (mod_small t k low)))

-- the digits times a query's words, as a column, is the query's words as a row times the digits
-- transposed
pub column_is_row : (d : WordMatrix) (c : List ℕ) → length c ≡ d.cols →
    transpose (record { rows = d.rows; cols = 1; words = times_vector d c }) ≡ product (one_row c) (transpose d)
column_is_row d c e =
    let a : WordMatrix = record { rows = d.rows; cols = 1; words = times_vector d c } in
    same-matrix_of 1 d.rows (λ i j. entry a j i) (λ i j. dot (row (one_row c) i) (column (transpose d) j)) (λ i j p q.
    let at : j * 1 + i ≡ j = omega arith in
    let prefix : row (one_row c) i ≡ c =
    same-list_of (length c) _ (λ k. slice_index c k) (λ k _. ap (slice_index c) (omega (arith, zero_times i (length c) p)))
    ∙ list_of-at c (length c) refl in
    ap (slice_index (times_vector d c)) at ∙ at-list_of d.rows (λ i. dot (row d i) c) j q
    ∙ ap (λ y. dot (row d j) y) (sym (list_of-at c d.cols e))
    ∙ dot_comm d.cols (λ t. entry d j t) (λ t. slice_index c t)
    ∙ ap (λ x. dot x (row d j)) (list_of-at c d.cols e)
    ∙ ap (λ x. dot x (row d j)) (sym prefix) ∙ ap (λ y. dot (row (one_row c) i) y) (sym (column-transpose d j q)))
  where
    zero_times : (i n : ℕ) → i < 1 → i * n ≡ 0
    zero_times zero n l = omega arith
    zero_times (suc i) n l = absurd (omega arith)
