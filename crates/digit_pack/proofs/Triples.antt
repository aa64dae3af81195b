-- Three digits of 10 bits in a word.
use Rattle.std.proofs.Common.{◌≡◌, ℕ, zero, suc, ◌+◌, ◌*◌, ◌/◌, ◌%◌, ◌^◌, ◌<◌, ◌≤◌, ◌==◌, if◌then◌else◌, arith, ap, ◌∙◌, sym, refl, subst, ⊎_elim, List, length, replicate, get_or-set_same, get_or-set_other}
use Rattle.std.proofs.lemmas.Nat.{mul-add-lt, div_below, mod_below, div-add-mod', same_from_place}
use Rattle.std.proofs.lemmas.Bool.{cases_eq, cases_lt}
use Rattle.std.proofs.lemmas.Bool.Decides.{nat_tests}
use Rattle.std.proofs.lemmas.List.{length-set, get_or-replicate, length-replicate, get_or_past}
use Rattle.std.proofs.lemmas.List.Elements.{All-from_get_or}
use Rattle.std.specs.Prelude.{slice_index, slice_set, All}
use Rattle.matrix_u32.specs.Matrix.{WordMatrix, IsWhole, entry, with_entry, entry_or_zero}
use Rattle.matrix_u32.proofs.Rows.{if_here, if_elsewhere}
use Rattle.matrix_u32.proofs.Changes.{matrix_by_entries, entry_kept, entry_set}
use Rattle.matrix_u32.proofs.Products.{at-list_of, length-list_of, words_are, entry-matrix_of}
use Rattle.lane_kernels.specs.Digit.{digit}
use Rattle.lane_kernels.specs.Packed.{packed_cols, unpacked}
use Rattle.digit_pack.specs.Packed.{packed, packed_word, IsPacked, IsReplaced}
use Rattle.digit_pack.proofs.DigitSums.{digit-lt}

pub in_row : (j cols : ℕ) → j < cols → j / 3 < packed_cols cols
in_row j cols l = omega arith

pub place_inside : (rows cols i j : ℕ) → i < rows → j < cols → i * packed_cols cols + j / 3 < rows * packed_cols cols
place_inside rows cols i j p q = omega (arith, mul-add-lt i (packed_cols cols) (j / 3) rows p (in_row j cols q))

-- a digit of three
pub first_of : (a b c t : ℕ) → t ≡ 0 → a < 1024 → b < 1024 → c < 1024 → digit 10 (a + b * 2 ^ 10 + c * 2 ^ 20) t ≡ a
unfolding digit
first_of a b c t e p q r = rw e (omega arith)

pub second_of : (a b c t : ℕ) → t ≡ 1 → a < 1024 → b < 1024 → c < 1024 → digit 10 (a + b * 2 ^ 10 + c * 2 ^ 20) t ≡ b
unfolding digit
second_of a b c t e p q r = rw e (omega arith)

pub third_of : (a b c t : ℕ) → t ≡ 2 → a < 1024 → b < 1024 → c < 1024 → digit 10 (a + b * 2 ^ 10 + c * 2 ^ 20) t ≡ c
unfolding digit
third_of a b c t e p q r = rw e (omega arith)

-- digits below 1024
pub record IsSmall (m : WordMatrix) : Type 0 where
  pub each : (i j : ℕ) → i < m.rows → j < m.cols → entry m i j < 1024

pub within : (m : WordMatrix) (i j : ℕ) → j < m.cols → entry_or_zero m i j ≡ entry m i j
within m i j l = grind (arith, nat_tests)

pub past : (m : WordMatrix) (i j : ℕ) → m.cols ≤ j → entry_or_zero m i j ≡ 0
past m i j l = grind (arith, nat_tests)

pub small_or_zero : (m : WordMatrix) (i j : ℕ) → IsSmall m → i < m.rows → entry_or_zero m i j < 1024
small_or_zero m i j s p = ⊎_elim (λ l. omega (arith, within m i j l, s.each i j p l)) (λ g. omega (arith, past m i j g)) (cases_lt j m.cols)

pub packed_word-lt : (m : WordMatrix) (i u : ℕ) → IsSmall m → i < m.rows → packed_word m i u < 2 ^ 30
packed_word-lt m i u s p = omega (arith, small_or_zero m i (3 * u) s p, small_or_zero m i (3 * u + 1) s p, small_or_zero m i (3 * u + 2) s p)

pub at-packed : (m : WordMatrix) (i j : ℕ) → i < m.rows → j < m.cols → slice_index (packed m) (i * packed_cols m.cols + j / 3) ≡ packed_word m i (j / 3)
at-packed m i j p q = entry-matrix_of m.rows (packed_cols m.cols) (packed_word m) i (j / 3) p (in_row j m.cols q)

-- the three places of a word
thirds : {P : Type 0} (j : ℕ) → (j % 3 ≡ 0 → P) → (j % 3 ≡ 1 → P) → (j % 3 ≡ 2 → P) → P
thirds j f g h =
    ⊎_elim f (λ a. ⊎_elim g (λ b. h (omega (arith, mod_below j 3 (omega arith)))) (cases_eq (j % 3) 1)) (cases_eq (j % 3) 0)

pub digit_of_packed : (m : WordMatrix) (i j : ℕ) → IsSmall m → i < m.rows → j < m.cols → digit 10 (packed_word m i (j / 3)) (j % 3) ≡ entry m i j
digit_of_packed m i j s p q =
    let u : ℕ = j / 3 in
    let a : ℕ = entry_or_zero m i (3 * u) in
    let b : ℕ = entry_or_zero m i (3 * u + 1) in
    let c : ℕ = entry_or_zero m i (3 * u + 2) in
    let la : a < 1024 = small_or_zero m i (3 * u) s p in
    let lb : b < 1024 = small_or_zero m i (3 * u + 1) s p in
    let lc : c < 1024 = small_or_zero m i (3 * u + 2) s p in
    let here : entry_or_zero m i j ≡ entry m i j = within m i j q in
    thirds j
    (λ e. first_of a b c (j % 3) e la lb lc ∙ ap (entry_or_zero m i) (omega arith) ∙ here)
    (λ e. second_of a b c (j % 3) e la lb lc ∙ ap (entry_or_zero m i) (omega arith) ∙ here)
    (λ e. third_of a b c (j % 3) e la lb lc ∙ ap (entry_or_zero m i) (omega arith) ∙ here)

-- what the packed words hold is the matrix
pub unpack_packed : (m : WordMatrix) → IsWhole m → IsSmall m → unpacked m.rows m.cols (packed m) ≡ m
unpack_packed m whole s =
    sym (matrix_by_entries m m.rows m.cols (λ i j. digit 10 (slice_index (packed m) (i * packed_cols m.cols + j / 3)) (j % 3)) refl refl whole (λ i j p q.
    sym (ap (λ w. digit 10 w (j % 3)) (at-packed m i j p q) ∙ digit_of_packed m i j s p q)))

pub small_unpacked : (rows cols : ℕ) (words : List ℕ) → IsSmall (unpacked rows cols words)
small_unpacked rows cols words = record {
  each = λ i j p q.
      omega (
        arith,
        entry-matrix_of rows cols (λ i j. digit 10 (slice_index words (i * packed_cols cols + j / 3)) (j % 3)) i j p q,
        digit-lt 10 (slice_index words (i * packed_cols cols + j / 3)) (j % 3),
      );
}

pub whole_unpacked : (rows cols : ℕ) (words : List ℕ) → IsWhole (unpacked rows cols words)
whole_unpacked rows cols words = length-list_of (rows * cols) _

-- words that are a small matrix's packed list hold that matrix
pub holds : (m : WordMatrix) (words : List ℕ) → IsWhole m → IsSmall m → words ≡ packed m → unpacked m.rows m.cols words ≡ m
holds m words whole s e = ap (λ ws. unpacked m.rows m.cols ws) e ∙ unpack_packed m whole s

pub stays_packed : (m : WordMatrix) (words : List ℕ) → IsWhole m → IsSmall m → words ≡ packed m → IsPacked m.rows m.cols words
stays_packed m words whole s e = record { same = e ∙ ap packed (sym (holds m words whole s e)) }

pub small_set : (m : WordMatrix) (i j v : ℕ) → IsWhole m → IsSmall m → i < m.rows → j < m.cols → v < 1024 → IsSmall (with_entry m i j v)
small_set m i j v whole s p q l = record {
  each = λ r c a b.
      ⊎_elim
      (λ er.
      ⊎_elim
      (λ ec. omega (arith, ap (λ y. entry (with_entry m i j v) y c) er, ap (entry (with_entry m i j v) i) ec, entry_set m i j v whole p q))
      (λ dc. omega (arith, entry_kept m i j v r c q b (λ x. dc x.1), s.each r c a b))
      (cases_eq c j))
      (λ dr. omega (arith, entry_kept m i j v r c q b (λ x. dr x.0), s.each r c a b))
      (cases_eq r i);
}

zero_kept : (m : WordMatrix) (i j v r c : ℕ) → j < m.cols → ¬ ((r ≡ i) × (c ≡ j)) → entry_or_zero (with_entry m i j v) r c ≡ entry_or_zero m r c
zero_kept m i j v r c q d =
    ⊎_elim
    (λ l. within (with_entry m i j v) r c l ∙ entry_kept m i j v r c q l d ∙ sym (within m r c l))
    (λ g. past (with_entry m i j v) r c g ∙ sym (past m r c g))
    (cases_lt c m.cols)

word_kept : (m : WordMatrix) (i j v r u : ℕ) → j < m.cols → ¬ ((r ≡ i) × (u ≡ j / 3)) → packed_word m r u ≡ packed_word (with_entry m i j v) r u
word_kept m i j v r u q d =
    omega (
      arith,
      zero_kept m i j v r (3 * u) q (λ x. d (x.0, omega (arith, x.1))),
      zero_kept m i j v r (3 * u + 1) q (λ x. d (x.0, omega (arith, x.1))),
      zero_kept m i j v r (3 * u + 2) q (λ x. d (x.0, omega (arith, x.1))),
    )

word_replaced : (m : WordMatrix) (i j v w : ℕ) → IsWhole m → IsSmall m → i < m.rows → j < m.cols → IsReplaced (packed_word m i (j / 3)) (j % 3) v w →
    w ≡ packed_word (with_entry m i j v) i (j / 3)
word_replaced m i j v w whole s p q h =
    let u : ℕ = j / 3 in
    let a : ℕ = entry_or_zero m i (3 * u) in
    let b : ℕ = entry_or_zero m i (3 * u + 1) in
    let c : ℕ = entry_or_zero m i (3 * u + 2) in
    let new : ℕ → ℕ = entry_or_zero (with_entry m i j v) i in
    let here : new j ≡ v = within (with_entry m i j v) i j q ∙ entry_set m i j v whole p q in
    let is : w ≡ (if j % 3 == 0 then v else a) + (if j % 3 == 1 then v else b) * 2 ^ 10 + (if j % 3 == 2 then v else c) * 2 ^ 20 =
    h a b c (small_or_zero m i (3 * u) s p) (small_or_zero m i (3 * u + 1) s p) (small_or_zero m i (3 * u + 2) s p) refl in
    thirds j
    (λ e.
    let at : 3 * u ≡ j = omega arith in
    omega (
      arith,
      is,
      if_here (j % 3) 0 v a e,
      if_elsewhere (j % 3) 1 v b (omega arith),
      if_elsewhere (j % 3) 2 v c (omega arith),
      ap new at ∙ here,
      zero_kept m i j v i (3 * u + 1) q (λ x. absurd (omega (arith, x.1))),
      zero_kept m i j v i (3 * u + 2) q (λ x. absurd (omega (arith, x.1))),
    ))
    (λ e.
    let at : 3 * u + 1 ≡ j = omega arith in
    omega (
      arith,
      is,
      if_elsewhere (j % 3) 0 v a (omega arith),
      if_here (j % 3) 1 v b e,
      if_elsewhere (j % 3) 2 v c (omega arith),
      ap new at ∙ here,
      zero_kept m i j v i (3 * u) q (λ x. absurd (omega (arith, x.1))),
      zero_kept m i j v i (3 * u + 2) q (λ x. absurd (omega (arith, x.1))),
    ))
    (λ e.
    let at : 3 * u + 2 ≡ j = omega arith in
    omega (
      arith,
      is,
      if_elsewhere (j % 3) 0 v a (omega arith),
      if_elsewhere (j % 3) 1 v b (omega arith),
      if_here (j % 3) 2 v c e,
      ap new at ∙ here,
      zero_kept m i j v i (3 * u) q (λ x. absurd (omega (arith, x.1))),
      zero_kept m i j v i (3 * u + 1) q (λ x. absurd (omega (arith, x.1))),
    ))

-- one word written again, for one digit
pub set_packed : (m : WordMatrix) (words : List ℕ) (i j v k w : ℕ) → IsWhole m → IsSmall m → words ≡ packed m → i < m.rows → j < m.cols →
    k ≡ i * packed_cols m.cols + j / 3 → IsReplaced (slice_index words k) (j % 3) v w → slice_set words k w ≡ packed (with_entry m i j v)
set_packed m words i j v k w whole s same p q ke h =
    let n : ℕ = packed_cols m.cols in
    let wide : 0 < n = omega (arith, in_row j m.cols q) in
    let count : length words ≡ m.rows * n = ap length same ∙ length-list_of (m.rows * n) (λ k. packed_word m (k / n) (k % n)) in
    let inside : k < length words = omega (arith, count, place_inside m.rows m.cols i j p q) in
    let was : slice_index words k ≡ packed_word m i (j / 3) = ap (slice_index words) ke ∙ ap (λ ws. slice_index ws (i * n + j / 3)) same
    ∙ at-packed m i j p q in
    let new : w ≡ packed_word (with_entry m i j v) i (j / 3) = word_replaced m i j v w whole s p q (subst (λ y. IsReplaced y (j % 3) v w) was h) in
    words_are (slice_set words k w) (m.rows * n) (λ t. packed_word (with_entry m i j v) (t / n) (t % n)) (length-set words k w ∙ count) (λ t l.
    let low : t % n < n = mod_below t n wide in
    let split : t / n * n + t % n ≡ t = div-add-mod' t n in
    ⊎_elim
    (λ e.
    let both : (t / n ≡ i) × (t % n ≡ j / 3) = same_from_place (t / n) (t % n) i (j / 3) n low (in_row j m.cols q) (split ∙ e ∙ ke) in
    ap (slice_index (slice_set words k w)) e ∙ get_or-set_same words k w 0 inside ∙ new
    ∙ ap (λ r. packed_word (with_entry m i j v) r (j / 3)) (sym both.0) ∙ ap (packed_word (with_entry m i j v) (t / n)) (sym both.1))
    (λ d.
    get_or-set_other words k t w 0 d ∙ ap (λ ws. slice_index ws t) same ∙ at-list_of (m.rows * n) (λ k. packed_word m (k / n) (k % n)) t l
    ∙ word_kept m i j v (t / n) (t % n) q (λ x. d (sym split ∙ ap (λ r. r * n + t % n) x.0 ∙ ap (λ u. i * n + u) x.1 ∙ sym ke)))
    (cases_eq t k))

-- ---- zeros
pub zero_at : (n k : ℕ) → slice_index (replicate n 0) k ≡ 0
zero_at n k = ⊎_elim (λ l. get_or-replicate n k 0 0 l) (λ g. get_or_past (replicate n 0) k 0 (omega (arith, length-replicate {A = ℕ} n 0))) (cases_lt k n)

pub zeros_packed : (rows cols n : ℕ) → n ≡ packed_cols cols →
    replicate (rows * n) 0 ≡ packed (record { rows = rows; cols = cols; words = replicate (rows * cols) 0 })
zeros_packed rows cols n e =
    let m : WordMatrix = record { rows = rows; cols = cols; words = replicate (rows * cols) 0 } in
    let none : (i j : ℕ) → entry_or_zero m i j ≡ 0 =
    λ i j. ⊎_elim (λ l. within m i j l ∙ zero_at (rows * cols) (i * cols + j)) (λ g. past m i j g) (cases_lt j cols) in
    ap (λ n. replicate (rows * n) 0) e
    ∙ words_are (replicate (rows * packed_cols cols) 0) (rows * packed_cols cols) (λ t. packed_word m (t / packed_cols cols) (t % packed_cols cols))
    (length-replicate (rows * packed_cols cols) 0) (λ t l.
    let i : ℕ = t / packed_cols cols in
    let u : ℕ = t % packed_cols cols in
    omega (arith, zero_at (rows * packed_cols cols) t, none i (3 * u), none i (3 * u + 1), none i (3 * u + 2)))

pub small_zeros : (rows cols : ℕ) → IsSmall (record { rows = rows; cols = cols; words = replicate (rows * cols) 0 })
small_zeros rows cols = record { each = λ i j _ _. omega (arith, zero_at (rows * cols) (i * cols + j)) }

pub count_packed : (rows cols : ℕ) (words : List ℕ) → IsPacked rows cols words → length words ≡ rows * packed_cols cols
count_packed rows cols words h = ap length h.same
    ∙ length-list_of (rows * packed_cols cols) (λ k. packed_word (unpacked rows cols words) (k / packed_cols cols) (k % packed_cols cols))

pub word_small : (rows cols : ℕ) (words : List ℕ) (i j k : ℕ) → IsPacked rows cols words → i < rows → j < cols → k ≡ i * packed_cols cols + j / 3 →
    slice_index words k < 2 ^ 30
word_small rows cols words i j k h p q e =
    let was : slice_index words k ≡ packed_word (unpacked rows cols words) i (j / 3) =
    ap (slice_index words) e ∙ ap (λ ws. slice_index ws (i * packed_cols cols + j / 3)) h.same ∙ at-packed (unpacked rows cols words) i j p q in
    omega (arith, was, packed_word-lt (unpacked rows cols words) i (j / 3) (small_unpacked rows cols words) p)

some_words : (rows n k : ℕ) → k < rows * n → 0 < n
some_words rows zero k h = absurd (omega arith)
some_words rows (suc n) k h = omega arith

pub words_small : (rows cols : ℕ) (words : List ℕ) → IsPacked rows cols words → All (λ w. w < 2 ^ 30) words
words_small rows cols words h =
    let m : WordMatrix = unpacked rows cols words in
    let n : ℕ = packed_cols cols in
    All-from_get_or (λ w. w < 2 ^ 30) words 0 (λ k p.
    let inside : k < rows * n = omega (arith, p, count_packed rows cols words h) in
    let wide : 0 < n = some_words rows n k inside in
    let is : slice_index words k ≡ packed_word m (k / n) (k % n) =
    ap (λ (ws : List ℕ). slice_index ws k) h.same ∙ at-list_of (rows * n) (λ k. packed_word m (k / n) (k % n)) k inside in
    omega (arith, is, packed_word-lt m (k / n) (k % n) (small_unpacked rows cols words) (div_below k n rows wide inside)))

-- after a write of one digit
module _ (rows cols : ℕ) (words : List ℕ) (i j v k w : ℕ) (h : IsPacked rows cols words) (p : i < rows) (q : j < cols) (l : v < 1024)
    (e : k ≡ i * packed_cols cols + j / 3) (r : IsReplaced (slice_index words k) (j % 3) v w) where
  now_packed : slice_set words k w ≡ packed (with_entry (unpacked rows cols words) i j v)
  now_packed = set_packed (unpacked rows cols words) words i j v k w (whole_unpacked rows cols words) (small_unpacked rows cols words) h.same p q e r

  now_whole : IsWhole (with_entry (unpacked rows cols words) i j v)
  now_whole = length-set _ _ _ ∙ whole_unpacked rows cols words

  now_small : IsSmall (with_entry (unpacked rows cols words) i j v)
  now_small = small_set (unpacked rows cols words) i j v (whole_unpacked rows cols words) (small_unpacked rows cols words) p q l

  pub written : unpacked rows cols (slice_set words k w) ≡ with_entry (unpacked rows cols words) i j v
  written = holds (with_entry (unpacked rows cols words) i j v) (slice_set words k w) now_whole now_small now_packed

  pub written_packed : IsPacked rows cols (slice_set words k w)
  written_packed = stays_packed (with_entry (unpacked rows cols words) i j v) (slice_set words k w) now_whole now_small now_packed
