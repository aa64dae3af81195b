-- Rows that a list names: sums over them, and the hints of digits that change in them.
use Rattle.std.proofs.Common.{◌≡◌, ◌≢◌, ℕ, zero, suc, ◌+◌, ◌-◌, ◌*◌, ◌/◌, ◌%◌, ◌^◌, ◌<◌, ◌≤◌, ◌⊎◌, arith, ap, ◌∙◌, sym, refl, inl, inr, List, length, lit<}
use Rattle.std.proofs.Math.Nat.{pow-le-pow_right}
use Rattle.std.proofs.lemmas.Bool.{cases_eq}
use Rattle.std.proofs.lemmas.Nat.{div_below}
use Rattle.std.specs.Prelude.{slice_index}
use Rattle.std.specs.List.Sorted.{IsStrictlyIncreasing}
use Rattle.matrix_u32.specs.Sum.{sum_below, dot}
use Rattle.matrix_u32.specs.Matrix.{WordMatrix, entry, matrix_of, row, column, product, transpose}
use Rattle.matrix_u32.proofs.Sums.{sum_add, sum_congruent}
use Rattle.matrix_u32.proofs.Changes.{matrix_by_entries, same-matrix_of}
use Rattle.matrix_u32.proofs.Products.{entry-matrix_of, entry-product, entry-product_sum, entry-product_transposed_within}
use Rattle.matrix_u32.proofs.Rows.{row_index}
use Rattle.lane_kernels.specs.Digit.{digit, split_count}
use Rattle.digit_pack.specs.Digits.{decomposed_at}
use Rattle.digit_pack.proofs.DigitSums.{digit-lt}
use Rattle.double_scheme.specs.Double.{server_hint_of}
use Rattle.hint_update.specs.Updates.{AreHintsOf, AreRowsBelow, IsUnlisted, IsListedChange, TakesRows, change_times, moved_by_rows, word_digit_at}

-- ---- lists
-- a later number of an ascending list is greater
pub later_greater : (xs : List ℕ) → IsStrictlyIncreasing xs → (i j : ℕ) → i < j → j < length xs → slice_index xs i < slice_index xs j
later_greater xs up i zero l p = absurd (omega arith)
later_greater xs up i (suc j) l p =
    let next : slice_index xs j < slice_index xs (j + 1) = up j (omega arith) in
    let at : slice_index xs (j + 1) ≡ slice_index xs (suc j) = ap (slice_index xs) (omega arith) in
    elim (cases_eq i j) [
      | inl e ↦ let here : slice_index xs i ≡ slice_index xs j = ap (slice_index xs) e in omega (arith, next, at, here)
      | inr apart ↦ let before : slice_index xs i < slice_index xs j = later_greater xs up i j (omega arith) (omega arith) in omega (arith, next, at, before)
    ]

-- two places of it have different numbers
pub listed_apart : (xs : List ℕ) → IsStrictlyIncreasing xs → (i j : ℕ) → i < j → j < length xs → slice_index xs i ≢ slice_index xs j
listed_apart xs up i j l p = λ e. let less : _ = later_greater xs up i j l p in absurd (omega (arith, less, e))

-- a number is in one of the first n places of a list, or in none
pub listed_or_not : (xs : List ℕ) (n j : ℕ) → ((k : ℕ) × (k < n) × (slice_index xs k ≡ j)) ⊎ ((k : ℕ) → k < n → slice_index xs k ≢ j)
listed_or_not xs zero j = inr (λ k l. absurd (omega arith))
listed_or_not xs (suc n) j = elim (cases_eq (slice_index xs n) j) [
  | inl e ↦ inl (n, omega arith, e)
  | inr apart ↦ elim (listed_or_not xs n j) [
    | inl found ↦ inl (found.0, omega (arith, found.1), found.2)
    | inr none ↦ inr (λ k l. elim (cases_eq k n) [
      | inl e ↦ λ is. apart (ap (slice_index xs) (sym e) ∙ is)
      | inr other ↦ none k (omega arith)
    ])
  ]
]

-- ---- sums
-- a sum whose terms vanish modulo 2 ^ 32 but at n places, which ascend
listed_sum : (cols n : ℕ) (at g : ℕ → ℕ) → ((i j : ℕ) → i < j → j < n → at i < at j) → ((k : ℕ) → k < n → at k < cols) →
    ((t : ℕ) → t < cols → ((k : ℕ) → k < n → at k ≢ t) → g t % 2 ^ 32 ≡ 0) → sum_below cols g % 2 ^ 32 ≡ sum_below n (λ k. g (at k)) % 2 ^ 32
unfolding sum_below
listed_sum zero zero at g up inside none = refl
listed_sum zero (suc n) at g up inside none = let no : at n < 0 = inside n (omega arith) in absurd (omega (arith, no))
listed_sum (suc c) zero at g up inside none =
    let rest : sum_below c g % 2 ^ 32 ≡ 0 = listed_sum c zero at g (λ i j l p. absurd (omega arith)) (λ k l. absurd (omega arith)) (λ t l out. none t (omega arith) out) in
    let last : g c % 2 ^ 32 ≡ 0 = none c (omega arith) (λ k l. absurd (omega arith)) in
    omega (arith, rest, last)
listed_sum (suc c) (suc n) at g up inside none =
    let top : at n < suc c = inside n (omega arith) in
    elim (cases_eq (at n) c) [
      | inl e ↦
          let rest : sum_below c g % 2 ^ 32 ≡ sum_below n (λ k. g (at k)) % 2 ^ 32 =
          listed_sum c n at g (λ i j l p. up i j l (omega arith)) (λ k l. let less : at k < at n = up k n l (omega arith) in omega (arith, less, e))
          (λ t l out. none t (omega arith) (λ k p. elim (cases_eq k n) [
            | inl same ↦ λ is. let here : at k ≡ at n = ap at same in absurd (omega (arith, here, is, e, l))
            | inr other ↦ out k (omega arith)
          ])) in
          let last : g (at n) ≡ g c = ap g e in
          omega (arith, rest, last)
      | inr apart ↦
          let below : (k : ℕ) → k < suc n → at k < c = λ k l. elim (cases_eq k n) [
            | inl same ↦ let here : at k ≡ at n = ap at same in omega (arith, here, top, apart)
            | inr other ↦ let less : at k < at n = up k n (omega arith) (omega arith) in omega (arith, less, top, apart)
          ] in
          let rest : sum_below c g % 2 ^ 32 ≡ sum_below (suc n) (λ k. g (at k)) % 2 ^ 32 =
          listed_sum c (suc n) at g up below (λ t l out. none t (omega arith) out) in
          let last : g c % 2 ^ 32 ≡ 0 = none c (omega arith) (λ k l is. let less : at k < c = below k l in absurd (omega (arith, less, is))) in
          omega (arith, rest, last)
    ]

-- o m + (v + c) m is v m modulo 2 ^ 32, if o + c is 2 ^ 32
replaced : (o v m : ℕ) → o ≤ 2 ^ 32 → (o * m + (v + (2 ^ 32 - o)) * m) % 2 ^ 32 ≡ v * m % 2 ^ 32
replaced o v m small =
    let whole : (2 ^ 32 - o + o) * m ≡ 2 ^ 32 * m = ap (λ t. t * m) (omega arith) in
    omega (arith, whole)

-- no change, times m
unchanged : (o v m : ℕ) → o ≤ 2 ^ 32 → v ≡ o → (v + (2 ^ 32 - o)) * m % 2 ^ 32 ≡ 0
unchanged o v m small same =
    let whole : (v + (2 ^ 32 - o)) * m ≡ 2 ^ 32 * m = ap (λ t. t * m) (omega (arith, same)) in
    omega (arith, whole)

-- a sum whose terms change at listed places
changed_sum : (cols : ℕ) (listed : List ℕ) (old new a : ℕ → ℕ) → AreRowsBelow cols listed → ((t : ℕ) → t < cols → IsUnlisted listed t → new t ≡ old t) →
    ((t : ℕ) → t < cols → old t ≤ 2 ^ 32) →
    (sum_below cols (λ t. old t * a t) % 2 ^ 32
    + sum_below (length listed) (λ k. (new (slice_index listed k) + (2 ^ 32 - old (slice_index listed k))) * a (slice_index listed k))) % 2 ^ 32
    ≡ sum_below cols (λ t. new t * a t) % 2 ^ 32
changed_sum cols listed old new a rows same small =
    let change : ℕ → ℕ = λ t. (new t + (2 ^ 32 - old t)) * a t in
    let all : sum_below cols change % 2 ^ 32 ≡ sum_below (length listed) (λ k. change (slice_index listed k)) % 2 ^ 32 =
    listed_sum cols (length listed) (slice_index listed) change (later_greater listed rows.ascending) rows.below
    (λ t l out. unchanged (old t) (new t) (a t) (small t l) (same t l out)) in
    let both : sum_below cols (λ t. old t * a t + change t) ≡ sum_below cols (λ t. old t * a t) + sum_below cols change =
    sum_add cols (λ t. old t * a t) change in
    let ends : sum_below cols (λ t. old t * a t + change t) % 2 ^ 32 ≡ sum_below cols (λ t. new t * a t) % 2 ^ 32 =
    sum_congruent cols (λ t. old t * a t + change t) (λ t. new t * a t) (λ t l. replaced (old t) (new t) (a t) (small t l)) in
    omega (arith, all, both, ends)

-- ---- the hints of digits that change in listed rows
-- the client's hint
listed_client : (w : ℕ) (s0 s a2 hint : WordMatrix) (listed : List ℕ) → a2.rows ≡ s0.cols → AreRowsBelow s0.cols listed → TakesRows w hint s0 s listed →
    ((i j : ℕ) → i < s0.rows → j < s0.cols → entry s0 i j ≤ 2 ^ 32) → moved_by_rows (product s0 a2) s0 s a2 listed ≡ product s a2
listed_client w s0 s a2 hint listed tall rows takes small =
    same-matrix_of s0.rows a2.cols
    (λ r q. (entry (product s0 a2) r q + sum_below (length listed) (change_times s0 s a2 listed r q)) % 2 ^ 32)
    (λ r q. dot (row s r) (column a2 q)) (λ r q p b.
    ap (λ y. (y + sum_below (length listed) (change_times s0 s a2 listed r q)) % 2 ^ 32) (entry-product_sum s0 a2 r q p b (sym tall))
    ∙ changed_sum s0.cols listed (λ j. entry s0 r j) (λ j. entry s r j) (λ j. entry a2 j q) rows (λ j l out. takes.kept r j p l out) (λ j l. small r j p l)
    ∙ ap (λ n. sum_below n (λ j. entry s r j * entry a2 j q) % 2 ^ 32) (sym takes.cols)
    ∙ sym (entry-product_sum s a2 r q (omega (arith, takes.rows)) b (takes.cols ∙ sym tall))
    ∙ entry-product s a2 r q (omega (arith, takes.rows)) b)
    ∙ ap (λ n. matrix_of n a2.cols (λ r q. dot (row s r) (column a2 q))) (sym takes.rows)

-- the server's hint
listed_server : (w : ℕ) (s0 s a1 old new hint : WordMatrix) (listed : List ℕ) → 0 < split_count w → IsListedChange hint a1 old new listed →
    TakesRows w hint s0 s listed → s0 ≡ server_hint_of w old a1 → s ≡ server_hint_of w new a1
listed_server w s0 s a1 old new hint listed some change takes h =
    let high : ℕ = a1.cols * split_count w in
    let rows : s0.rows ≡ high = ap (λ (m : WordMatrix). m.rows) h in
    let cols : s0.cols ≡ new.rows = ap (λ (m : WordMatrix). m.cols) h ∙ change.rows in
    matrix_by_entries s high new.rows (decomposed_at w (product (transpose a1) (transpose new))) (takes.rows ∙ rows) (takes.cols ∙ cols) takes.whole (λ r j p q.
    let k : ℕ = r / split_count w in
    let t : ℕ = r % split_count w in
    let low : k < a1.cols = div_below r (split_count w) a1.cols some p in
    let right : entry (product (transpose a1) (transpose new)) k j ≡ dot (row new j) (column a1 k) =
    entry-product_transposed_within a1 new k j change.inner low q in
    elim (listed_or_not listed (length listed) j) [
      | inl found ↦
          let i : ℕ = found.0 in
          let here : row hint j ≡ row (product new a1) j =
          ap (row hint) (sym found.2) ∙ change.changed i found.1 ∙ ap (row (product new a1)) found.2 in
          ap (entry s r) (sym found.2) ∙ takes.taken r i (omega (arith, p, rows)) found.1 ∙ ap (λ j. word_digit_at w (row hint j) r) found.2
          ∙ ap (λ x. digit w x t) (ap (λ (x : List ℕ). slice_index x k) here ∙ row_index (product new a1) j k low ∙ entry-product new a1 j k q low ∙ sym right)
      | inr out ↦
          takes.kept r j (omega (arith, p, rows)) (omega (arith, q, cols)) out ∙ ap (λ m. entry m r j) h
          ∙ entry-matrix_of high old.rows (decomposed_at w (product (transpose a1) (transpose old))) r j p (omega (arith, q, change.rows))
          ∙ ap (λ x. digit w x t)
          (entry-product_transposed_within a1 old k j (omega (arith, change.inner, change.cols)) low (omega (arith, q, change.rows))
          ∙ ap (λ x. dot x (column a1 k)) (sym (change.others j q out)) ∙ sym right)
    ])

-- both hints are those of the new digits
pub listed_follows : (w : ℕ) (s0 s c0 c a1 a2 old new hint : WordMatrix) (listed : List ℕ) → 0 < split_count w → w ≤ 10 → a2.rows ≡ s0.cols →
    AreRowsBelow s0.cols listed → TakesRows w hint s0 s listed → c ≡ moved_by_rows c0 s0 s a2 listed → IsListedChange hint a1 old new listed →
    AreHintsOf w old a1 a2 s0 c0 → AreHintsOf w new a1 a2 s c
listed_follows w s0 s c0 c a1 a2 old new hint listed some narrow tall rows takes moved change made =
    let high : ℕ = a1.cols * split_count w in
    let few : 2 ^ w ≤ 2 ^ 10 = pow-le-pow_right (lit< tt) narrow in
    let small : (i j : ℕ) → i < s0.rows → j < s0.cols → entry s0 i j ≤ 2 ^ 32 = λ i j p q.
    let word : ℕ = entry (product (transpose a1) (transpose old)) (i / split_count w) j in
    let at : entry s0 i j ≡ digit w word (i % split_count w) =
    ap (λ m. entry m i j) made.server
    ∙ entry-matrix_of high old.rows (decomposed_at w (product (transpose a1) (transpose old))) i j
    (omega (arith, p, ap (λ (m : WordMatrix). m.rows) made.server)) (omega (arith, q, ap (λ (m : WordMatrix). m.cols) made.server)) in
    omega (arith, at, few, digit-lt w word (i % split_count w)) in
    let server : s ≡ server_hint_of w new a1 = listed_server w s0 s a1 old new hint listed some change takes made.server in
    record {
      server = server;
      client = moved
          ∙ ap (λ m. moved_by_rows m s0 s a2 listed) (made.client ∙ ap (λ m. product m a2) (sym made.server))
          ∙ listed_client w s0 s a2 hint listed tall rows takes small
          ∙ ap (λ m. product m a2) server;
    }
