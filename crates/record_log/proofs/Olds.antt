-- Old records whose numbers ascend.
use Rattle.std.proofs.Common.{◌≡◌, ℕ, zero, suc, ◌+◌, ◌-◌, ◌*◌, ◌<◌, ◌≤◌, ap, ◌∙◌, sym, subst, refl, inl, inr, arith, All, Option, Some, None, true, false, List, [], ◌∷◌, ◌++◌, length, get_or, take, drop, add-zero}
use Rattle.std.proofs.Math.Nat.{mul-le-mul_right}
use Rattle.std.proofs.lemmas.Bool.{cases_lt, cases_order, cond-true, cond-false, eq-eqb, ne_eqb, le-leb, lt-leb, or_left, or_right}
use Rattle.std.proofs.lemmas.List.{ext_get_or, length-map, length-drop, length_push, get_or-map, get_or_append_left, get_or_push, drop-append-le, drop_at, take-append-le, take_all}
use Rattle.std.proofs.lemmas.List.Folds.{list_any_none}
use Rattle.std.proofs.lemmas.List.FromFn.{map-range_with_len_more}
use Rattle.std.specs.List.Sorted.{IsStrictlyIncreasing}
use Rattle.std.specs.Borrow.{Bor}
use Rattle.std.specs.Option.{IfSome, MatchOption, option_copied}
use Rattle.std.specs.Prelude.{nat_eq, nat_le, slice_index, slice_get}
use Rattle.matrix_u32.specs.Sum.{list_of}
use Rattle.matrix_u32.proofs.Products.{at-list_of_any, length-list_of, same-list_of}
use Rattle.record_log.specs.OldRecords.{OldRecord, first_from, has_old, numbers_of, old_bytes_in, olds_in}

-- ---- numbers that ascend
-- they are as far apart as their places at least
rises : (xs : List ℕ) → IsStrictlyIncreasing xs → (i n : ℕ) → i + n < length xs → slice_index xs i + n ≤ slice_index xs (i + n)
rises xs up i zero h = omega (arith, ap (slice_index xs) (add-zero i))
rises xs up i (suc n) h =
    let before : slice_index xs i + n ≤ slice_index xs (i + n) = rises xs up i n (omega (arith, h)) in
    let step : slice_index xs (i + n) < slice_index xs (i + n + 1) = up (i + n) (omega (arith, h)) in
    let at : i + n + 1 ≡ i + suc n = omega arith in
    omega (arith, before, step, ap (slice_index xs) at)

pub not_less : (xs : List ℕ) → IsStrictlyIncreasing xs → (i j : ℕ) → i ≤ j → j < length xs → slice_index xs i ≤ slice_index xs j
not_less xs up i j h l =
    let at : i + (j - i) ≡ j = omega (arith, h) in
    omega (arith, rises xs up i (j - i) (omega (arith, at, l)), ap (slice_index xs) at)

pub greater : (xs : List ℕ) → IsStrictlyIncreasing xs → (i j : ℕ) → i < j → j < length xs → slice_index xs i < slice_index xs j
greater xs up i j h l =
    let at : i + (j - i) ≡ j = omega (arith, h) in
    omega (arith, rises xs up i (j - i) (omega (arith, at, l)), ap (slice_index xs) at, h)

-- ---- old records by their numbers and bytes
-- an old record of these
abbrev pub old_record : ℕ → List ℕ → OldRecord
old_record index bytes = record { index = index; bytes = bytes }

-- the old record in place k of numbers and bytes
abbrev pub old_in : ℕ → List ℕ → List ℕ → ℕ → OldRecord
old_in len numbers bytes k = old_record (slice_index numbers k) (take len (drop (k * len) bytes))

pub length-olds_in : (len : ℕ) (numbers bytes : List ℕ) → length (olds_in len numbers bytes) ≡ length numbers
length-olds_in len numbers bytes = length-list_of (length numbers) (old_in len numbers bytes)

pub at-olds_in : (len : ℕ) (numbers bytes : List ℕ) (k : ℕ) (d : OldRecord) → k < length numbers →
    get_or (olds_in len numbers bytes) k d ≡ old_in len numbers bytes k
at-olds_in len numbers bytes k d h = at-list_of_any (length numbers) (old_in len numbers bytes) k d h

-- the number in place k
number_at : (olds : List OldRecord) (k : ℕ) (d : OldRecord) → k < length olds → slice_index (numbers_of olds) k ≡ (get_or olds k d).index
number_at olds k d h = get_or-map (λ (old : OldRecord). old.index) olds k d 0 h

pub numbers_of-olds_in : (len : ℕ) (numbers bytes : List ℕ) → numbers_of (olds_in len numbers bytes) ≡ numbers
numbers_of-olds_in len numbers bytes =
    let olds : List OldRecord = olds_in len numbers bytes in
    let many : length (numbers_of olds) ≡ length olds = length-map olds (λ (old : OldRecord). old.index) in
    let long : length olds ≡ length numbers = length-olds_in len numbers bytes in
    ext_get_or 0 (numbers_of olds) numbers (many ∙ long) (λ k h.
    number_at olds k (old_record 0 []) (omega (arith, h, many))
    ∙ ap (λ (old : OldRecord). old.index) (at-olds_in len numbers bytes k (old_record 0 []) (omega (arith, h, many, long))))

-- one more number, and its bytes after the others
pub olds_in_more : (len : ℕ) (numbers bytes : List ℕ) (number : ℕ) (more : List ℕ) → length bytes ≡ length numbers * len → length more ≡ len →
    olds_in len (numbers ++ number ∷ []) (bytes ++ more) ≡ olds_in len numbers bytes ++ old_record number more ∷ []
olds_in_more len numbers bytes number more whole long =
    let n : ℕ = length numbers in
    let all : List ℕ = numbers ++ number ∷ [] in
    let joined : List ℕ = bytes ++ more in
    let before : (k : ℕ) → k < n → old_in len all joined k ≡ old_in len numbers bytes k = λ k h.
    let room : (k + 1) * len ≤ n * len = mul-le-mul_right len (omega (arith, h)) in
    ap (λ i. old_record i (take len (drop (k * len) joined))) (get_or_append_left numbers (number ∷ []) 0 k h)
    ∙ ap (λ (b : List ℕ). old_record (slice_index numbers k) (take len b)) (drop-append-le (k * len) bytes more (omega (arith, room, whole)))
    ∙ ap (old_record (slice_index numbers k))
    (take-append-le len (drop (k * len) bytes) more (omega (arith, room, whole, length-drop (k * len) bytes))) in
    let last : old_in len all joined n ≡ old_record number more =
    ap (λ i. old_record i (take len (drop (n * len) joined))) (get_or_push numbers number 0 n refl)
    ∙ ap (λ (b : List ℕ). old_record number (take len b)) (drop_at bytes more (n * len) whole)
    ∙ ap (old_record number) (take_all len more (omega (arith, long))) in
    ap (λ m. list_of m (old_in len all joined)) (length_push numbers number)
    ∙ map-range_with_len_more (old_in len all joined) 0 n n (omega arith)
    ∙ ap (λ (olds : List OldRecord). olds ++ old_in len all joined n ∷ []) (same-list_of n (old_in len all joined) (old_in len numbers bytes) before)
    ∙ ap (λ (old : OldRecord). olds_in len numbers bytes ++ old ∷ []) last

-- ---- what is found
pub first_from_is : (olds : List OldRecord) (least k : ℕ) → ((j : ℕ) → j < k → slice_index (numbers_of olds) j < least) →
    ((j : ℕ) → k ≤ j → j < length (numbers_of olds) → least ≤ slice_index (numbers_of olds) j) →
    first_from olds least ≡ slice_get (numbers_of olds) k
first_from_is [] least k low high = refl
first_from_is (old ∷ more) least zero low high =
    cond-true (nat_le least old.index) _ _ (le-leb least old.index (high 0 (omega arith) (omega arith)))
first_from_is (old ∷ more) least (suc k) low high =
    cond-false (nat_le least old.index) _ _ (lt-leb least old.index (low 0 (omega arith)))
    ∙ first_from_is more least k (λ j h. low (suc j) (omega (arith, h))) (λ j p q. high (suc j) (omega (arith, p)) (omega (arith, q)))

-- the record in place k, of a number that none before it has
pub old_at : (olds : List OldRecord) (i k : ℕ) (d : OldRecord) → k < length olds → slice_index (numbers_of olds) k ≡ i →
    ((j : ℕ) → j < k → slice_index (numbers_of olds) j < i) → (has_old olds i ≡ true) × (old_bytes_in olds i ≡ (get_or olds k d).bytes)
old_at [] i k d h same low = absurd (omega (arith, h))
old_at (old ∷ more) i zero d h same low =
    let is : nat_eq old.index i ≡ true = eq-eqb old.index i same in
    (or_left (nat_eq old.index i) (has_old more i) is, cond-true (nat_eq old.index i) old.bytes (old_bytes_in more i) is)
old_at (old ∷ more) i (suc k) d h same low =
    let rest = old_at more i k d (omega (arith, h)) same (λ j l. low (suc j) (omega (arith, l))) in
    let apart : nat_eq old.index i ≡ false = ne_eqb old.index i (λ e. absurd (omega (arith, low 0 (omega arith), e))) in
    (or_right (nat_eq old.index i) (has_old more i) rest.0, cond-false (nat_eq old.index i) old.bytes (old_bytes_in more i) apart ∙ rest.1)

pub no_old : (olds : List OldRecord) (i : ℕ) → ((j : ℕ) → j < length olds → slice_index (numbers_of olds) j ≡ i → ⊥) → has_old olds i ≡ false
no_old olds i apart =
    list_any_none (λ (old : OldRecord). nat_eq old.index i) olds (λ k d h.
    ne_eqb (get_or olds k d).index i (λ e. apart k h (number_at olds k d h ∙ e)))

-- ---- what is found in numbers and bytes
-- the numbers before place k are less than one, and those from it on aren't
pub record IsPlaceOf (numbers : List ℕ) (least k : ℕ) : Type 0 where
  pub less : (j : ℕ) → j < k → slice_index numbers j < least
  pub others : (j : ℕ) → k ≤ j → j < length numbers → least ≤ slice_index numbers j

pub first_in : (len : ℕ) (numbers bytes : List ℕ) (least k : ℕ) → IsPlaceOf numbers least k →
    first_from (olds_in len numbers bytes) least ≡ slice_get numbers k
first_in len numbers bytes least k place =
    let olds : List OldRecord = olds_in len numbers bytes in
    let same : numbers_of olds ≡ numbers = numbers_of-olds_in len numbers bytes in
    let there : IsPlaceOf (numbers_of olds) least k = subst (λ (xs : List ℕ). IsPlaceOf xs least k) (sym same) place in
    first_from_is olds least k there.less there.others ∙ ap (λ (xs : List ℕ). slice_get xs k) same

pub none_there : (len : ℕ) (numbers bytes : List ℕ) (i : ℕ) → ((j : ℕ) → j < length numbers → slice_index numbers j ≡ i → ⊥) →
    has_old (olds_in len numbers bytes) i ≡ false
none_there len numbers bytes i apart =
    no_old (olds_in len numbers bytes) i (λ j h same.
    apart j (omega (arith, h, length-olds_in len numbers bytes)) (ap (λ (xs : List ℕ). slice_index xs j) (sym (numbers_of-olds_in len numbers bytes)) ∙ same))

-- no number lies between one and the first from it on
pub none_between : (len : ℕ) (numbers bytes : List ℕ) (least k : ℕ) → IsStrictlyIncreasing numbers → IsPlaceOf numbers least k →
    (i : ℕ) → least ≤ i → i < slice_index numbers k → has_old (olds_in len numbers bytes) i ≡ false
none_between len numbers bytes least k up place i from below =
    none_there len numbers bytes i (λ j h same. elim (cases_lt j k) [
      | inl before ↦ absurd (omega (arith, place.less j before, from, same))
      | inr after ↦ absurd (omega (arith, not_less numbers up k j after h, below, same))
    ])

-- a number that isn't in its place is nowhere
pub none_elsewhere : (len : ℕ) (numbers bytes : List ℕ) (i k : ℕ) → IsStrictlyIncreasing numbers → IsPlaceOf numbers i k →
    (k < length numbers → slice_index numbers k ≡ i → ⊥) → has_old (olds_in len numbers bytes) i ≡ false
none_elsewhere len numbers bytes i k up place apart =
    none_there len numbers bytes i (λ j h same. elim (cases_order j k) [
      | inl here ↦ apart (omega (arith, h, here)) (ap (slice_index numbers) (sym here) ∙ same)
      | inr beside ↦ elim beside [
        | inl before ↦ absurd (omega (arith, place.less j before, same))
        | inr after ↦ absurd (omega (arith, greater numbers up k j after h, place.others k (omega arith) (omega (arith, h, after)), same))
      ]
    ])

-- a number that is in its place
pub there_is : (len : ℕ) (numbers bytes : List ℕ) (i k : ℕ) → IsPlaceOf numbers i k → k < length numbers → slice_index numbers k ≡ i →
    (has_old (olds_in len numbers bytes) i ≡ true) × (old_bytes_in (olds_in len numbers bytes) i ≡ take len (drop (k * len) bytes))
there_is len numbers bytes i k place h is =
    let olds : List OldRecord = olds_in len numbers bytes in
    let none : OldRecord = old_record 0 [] in
    let same : numbers_of olds ≡ numbers = numbers_of-olds_in len numbers bytes in
    let there : IsPlaceOf (numbers_of olds) i k = subst (λ (xs : List ℕ). IsPlaceOf xs i k) (sym same) place in
    let found = old_at olds i k none (omega (arith, h, length-olds_in len numbers bytes))
    (ap (λ (xs : List ℕ). slice_index xs k) same ∙ is) there.less in
    (found.0, found.1 ∙ ap (λ (old : OldRecord). old.bytes) (at-olds_in len numbers bytes k none h))

-- what holds of the number in place k, if there is one
pub at_place : (xs : List ℕ) (k : ℕ) (P : ℕ → Type 0) → (k < length xs → P (slice_index xs k)) → IfSome (slice_get xs k) P
at_place [] k P h = tt
at_place (x ∷ xs) zero P h = h (omega arith)
at_place (x ∷ xs) (suc k) P h = at_place xs k P (λ l. h (omega (arith, l)))

-- what `get` returns, copied, is the number in place k
pub copied_is : (xs : List ℕ) (k : ℕ) (r : Option (Bor ℕ)) →
    MatchOption r (length xs ≤ k) (λ x. (k < length xs) × ((d : ℕ) → x.now ≡ get_or xs k d)) → option_copied r ≡ slice_get xs k
copied_is [] k None past = refl
copied_is [] k (Some x) there = absurd (omega (arith, there.0))
copied_is (y ∷ xs) zero None past = absurd (omega (arith, past))
copied_is (y ∷ xs) zero (Some x) there = ap Some (there.1 0)
copied_is (y ∷ xs) (suc k) None past = copied_is xs k None (omega (arith, past))
copied_is (y ∷ xs) (suc k) (Some x) there = copied_is xs k (Some x) (omega (arith, there.0), there.1)

-- ---- one more
pub all_less : (len : ℕ) (numbers bytes : List ℕ) (number : ℕ) → All (λ (old : OldRecord). old.index < number) (olds_in len numbers bytes) →
    (k : ℕ) → k < length numbers → slice_index numbers k < number
all_less len numbers bytes number later k h =
    let none : OldRecord = old_record 0 [] in
    omega (
      arith,
      later k none (omega (arith, h, length-olds_in len numbers bytes)),
      ap (λ (old : OldRecord). old.index) (at-olds_in len numbers bytes k none h),
    )

pub ascend_more : (numbers : List ℕ) (number : ℕ) → IsStrictlyIncreasing numbers → ((k : ℕ) → k < length numbers → slice_index numbers k < number) →
    IsStrictlyIncreasing (numbers ++ number ∷ [])
ascend_more numbers number up less = λ k h.
    let more : List ℕ = number ∷ [] in
    let inside : k < length numbers = omega (arith, h, length_push numbers number) in
    let here : slice_index (numbers ++ more) k ≡ slice_index numbers k = get_or_append_left numbers more 0 k inside in
    elim (cases_lt (k + 1) (length numbers)) [
      | inl before ↦ omega (arith, here, get_or_append_left numbers more 0 (k + 1) before, up k before)
      | inr last ↦ omega (arith, here, get_or_push numbers number 0 (k + 1) (omega (arith, inside, last)), less k inside)
    ]
