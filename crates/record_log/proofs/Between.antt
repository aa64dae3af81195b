-- The changes between two lists of records, step by step.
use Rattle.std.proofs.Common.{◌≡◌, ℕ, zero, suc, ◌+◌, ◌-◌, ◌<◌, ◌≤◌, ap, ◌∙◌, sym, refl, arith, Bool, true, false, List, [], ◌∷◌, ◌++◌, length, add-zero}
use Rattle.std.proofs.lemmas.List.{length-append, append-nil}
use Rattle.std.proofs.lemmas.List.Concat.{flat_map-append}
use Rattle.std.proofs.lemmas.Slice.Eq.{slice_eq-Decides}
use Rattle.std.specs.Cmp.{unsigned_Decides}
use Rattle.std.specs.Cmp.Lexicographic.{pointwise}
use Rattle.std.specs.List.{range_with_len}
use Rattle.std.specs.Prelude.{nat_eq}
use Rattle.digit_pack.specs.Layout.{record_at}
use Rattle.hint_changes.specs.Changes.{ChangedRecord, change_of, changes_at, unless_same}
use Rattle.record_log.specs.OldRecords.{entries_bytes, entry_bytes}
use Rattle.record_log.specs.Steps.{change_or_none}

range-append : (a m n : ℕ) → range_with_len a (m + n) ≡ range_with_len a m ++ range_with_len (a + m) n
range-append a zero n =
    let none : zero + n ≡ n = omega arith in
    ap (range_with_len a) none ∙ ap (λ b. range_with_len b n) (sym (add-zero a))
range-append a (suc m) n =
    let more : suc m + n ≡ suc (m + n) = omega arith in
    let place : a + 1 + m ≡ a + suc m = omega arith in
    ap (range_with_len a) more
    ∙ ap (λ (xs : List ℕ). a ∷ xs) (range-append (a + 1) m n)
    ∙ ap (λ b. (a ∷ range_with_len (a + 1) m) ++ range_with_len b n) place

-- a change and others, and then more
unless_more : (b : Bool) (c : ChangedRecord) (xs ys : List ChangedRecord) → unless_same b c (xs ++ ys) ≡ unless_same b c xs ++ ys
unless_more true c xs ys = refl
unless_more false c xs ys = refl

changes_at-append : (before after : List (List ℕ)) (xs ys : List ℕ) →
    changes_at before after (xs ++ ys) ≡ changes_at before after xs ++ changes_at before after ys
changes_at-append before after [] ys = refl
changes_at-append before after (i ∷ xs) ys =
    let same : Bool = pointwise nat_eq (record_at before i) (record_at after i) in
    ap (unless_same same (change_of before after i)) (changes_at-append before after xs ys)
    ∙ unless_more same (change_of before after i) (changes_at before after xs) (changes_at before after ys)

-- what is the same is no change
left_out : (b : Bool) (c : ChangedRecord) (more : List ChangedRecord) → b ≡ true → unless_same b c more ≡ more
left_out true c more h = refl
left_out false c more h = cc

equal : (xs ys : List ℕ) → xs ≡ ys → pointwise nat_eq xs ys ≡ true
equal xs ys is = (slice_eq-Decides unsigned_Decides xs ys (pointwise nat_eq xs ys) refl).1 is

-- records that are the same have no changes
none_changed : (before after : List (List ℕ)) (a n : ℕ) → ((i : ℕ) → a ≤ i → i < a + n → record_at before i ≡ record_at after i) →
    changes_at before after (range_with_len a n) ≡ []
none_changed before after a zero same = refl
none_changed before after a (suc n) same =
    left_out (pointwise nat_eq (record_at before a) (record_at after a)) (change_of before after a) (changes_at before after (range_with_len (a + 1) n))
    (equal (record_at before a) (record_at after a) (same a (omega arith) (omega arith)))
    ∙ none_changed before after (a + 1) n (λ i p q. same i (omega (arith, p)) (omega (arith, q)))

-- what is the same up to record n adds no changes
pub none_up_to : (before after : List (List ℕ)) (least n : ℕ) → least ≤ n →
    ((i : ℕ) → least ≤ i → i < n → record_at before i ≡ record_at after i) →
    changes_at before after (range_with_len 0 n) ≡ changes_at before after (range_with_len 0 least)
none_up_to before after least n h same =
    let parts : n ≡ least + (n - least) = omega (arith, h) in
    let done : List ChangedRecord = changes_at before after (range_with_len 0 least) in
    let place : 0 + least ≡ least = omega arith in
    ap (λ m. changes_at before after (range_with_len 0 m)) parts
    ∙ ap (changes_at before after) (range-append 0 least (n - least))
    ∙ changes_at-append before after (range_with_len 0 least) (range_with_len (0 + least) (n - least))
    ∙ ap (λ a. done ++ changes_at before after (range_with_len a (n - least))) place
    ∙ ap (λ (more : List ChangedRecord). done ++ more) (none_changed before after least (n - least) (λ i p q. same i p (omega (arith, q, h))))
    ∙ append-nil done

-- the change of record n comes after those before it
pub one_more : (before after : List (List ℕ)) (n : ℕ) →
    changes_at before after (range_with_len 0 (n + 1))
    ≡ changes_at before after (range_with_len 0 n) ++ change_or_none n (record_at before n) (record_at after n)
one_more before after n =
    let place : 0 + n ≡ n = omega arith in
    let done : List ChangedRecord = changes_at before after (range_with_len 0 n) in
    ap (changes_at before after) (range-append 0 n 1)
    ∙ changes_at-append before after (range_with_len 0 n) (range_with_len (0 + n) 1)
    ∙ ap (λ a. done ++ change_or_none a (record_at before a) (record_at after a)) place

pub entries-append : (xs ys : List ChangedRecord) → entries_bytes (xs ++ ys) ≡ entries_bytes xs ++ entries_bytes ys
entries-append xs ys = flat_map-append entry_bytes xs ys

-- the entries of the first records are no longer than those of all
pub not_longer : (before after : List (List ℕ)) (n m : ℕ) → n ≤ m →
    length (entries_bytes (changes_at before after (range_with_len 0 n))) ≤ length (entries_bytes (changes_at before after (range_with_len 0 m)))
not_longer before after n m h =
    let parts : m ≡ n + (m - n) = omega (arith, h) in
    let done : List ChangedRecord = changes_at before after (range_with_len 0 n) in
    let more : List ChangedRecord = changes_at before after (range_with_len (0 + n) (m - n)) in
    let all : entries_bytes (changes_at before after (range_with_len 0 m)) ≡ entries_bytes done ++ entries_bytes more =
    ap (λ k. entries_bytes (changes_at before after (range_with_len 0 k))) parts
    ∙ ap (λ (xs : List ℕ). entries_bytes (changes_at before after xs)) (range-append 0 n (m - n))
    ∙ ap entries_bytes (changes_at-append before after (range_with_len 0 n) (range_with_len (0 + n) (m - n)))
    ∙ entries-append done more in
    omega (arith, ap length all, length-append (entries_bytes done) (entries_bytes more))
