-- The changes of listed records.
use Rattle.std.proofs.Common.{◌≡◌, ℕ, zero, suc, ◌+◌, ◌<◌, ◌≤◌, ap, ◌∙◌, sym, refl, inl, inr, arith, Bool, true, false, List, [], ◌∷◌, length, get_or, add-one}
use Rattle.std.proofs.lemmas.Bool.{cases_eq}
use Rattle.std.proofs.lemmas.Map.Made.{Contains-tail}
use Rattle.std.specs.List.{Contains}
use Rattle.std.specs.List.Sorted.{IsStrictlyIncreasing}
use Rattle.std.specs.Cmp.Lexicographic.{pointwise}
use Rattle.std.specs.Prelude.{nat_eq, slice_index}
use Rattle.digit_pack.specs.Layout.{record_at}
use Rattle.hint_changes.specs.Changes.{ChangedRecord, change_of, changes_at, unless_same}
use Rattle.hint_changes.specs.Laws.{ListedChangesAreAll}
use Rattle.hint_changes.proofs.Between.{changes_from}

-- an element that is there doesn't depend on the default
same_default : (xs : List ℕ) (k d e : ℕ) → k < length xs → get_or xs k d ≡ get_or xs k e
same_default [] k d e h = absurd (omega (arith, h))
same_default (x ∷ xs) zero d e h = refl
same_default (x ∷ xs) (suc k) d e h = same_default xs k d e (omega (arith, h))

-- what is no change is left out
left_out : (b : Bool) (c : ChangedRecord) (more : List ChangedRecord) → ¬ (b ≡ false) → unless_same b c more ≡ more
left_out true c more h = refl
left_out false c more h = absurd (h refl)

-- listed numbers from i on, below i + n, that name each record that differs there
record Names (before after : List (List ℕ)) (i n : ℕ) (listed : List ℕ) : Type 0 where
  up : IsStrictlyIncreasing listed
  low : (k : ℕ) → k < length listed → i ≤ slice_index listed k
  high : (k : ℕ) → k < length listed → slice_index listed k < i + n
  each : (j : ℕ) → i ≤ j → j < i + n → pointwise nat_eq (record_at before j) (record_at after j) ≡ false → Contains listed j

-- the element after the first
at_next : (r : ℕ) (more : List ℕ) (k : ℕ) → slice_index (r ∷ more) (k + 1) ≡ slice_index more k
at_next r more k = ap (slice_index (r ∷ more)) (add-one k)

-- the numbers after the first are greater
later : (r : ℕ) (more : List ℕ) → IsStrictlyIncreasing (r ∷ more) → (k : ℕ) → k < length more → r < slice_index more k
later r more up zero h = up 0 (omega (arith, h))
later r more up (suc k) h =
    let before : r < slice_index more k = later r more up k (omega (arith, h)) in
    let next : slice_index more k < slice_index more (suc k) =
    omega (arith, up (k + 1) (omega (arith, h)), at_next r more k, at_next r more (k + 1), ap (slice_index more) (add-one k)) in
    omega (arith, before, next)

rest : (r : ℕ) (more : List ℕ) → IsStrictlyIncreasing (r ∷ more) → IsStrictlyIncreasing more
rest r more up k h = omega (arith, up (k + 1) (omega (arith, h)), at_next r more k, at_next r more (k + 1))

-- all of them are as great as the first at least
from_first : (r : ℕ) (more : List ℕ) → IsStrictlyIncreasing (r ∷ more) → (least : ℕ) → least ≤ r → (k : ℕ) → k < length (r ∷ more) →
    least ≤ slice_index (r ∷ more) k
from_first r more up least low zero h = low
from_first r more up least low (suc k) h = omega (arith, later r more up k (omega (arith, h)), low)

not_there : (r : ℕ) (more : List ℕ) → IsStrictlyIncreasing (r ∷ more) → (i : ℕ) → i < r → Contains (r ∷ more) i → ⊥
not_there r more up i above found =
    let least : i + 1 ≤ get_or (r ∷ more) found.0 0 = from_first r more up (i + 1) (omega (arith, above)) found.0 found.1 in
    let any : get_or (r ∷ more) found.0 0 ≡ get_or (r ∷ more) found.0 i = same_default (r ∷ more) found.0 0 i found.1 in
    omega (arith, least, any, found.2)

all_named : (before after : List (List ℕ)) (i n : ℕ) (listed : List ℕ) → Names before after i n listed →
    changes_at before after listed ≡ changes_from before after i n
all_named before after i zero [] names = refl
all_named before after i zero (r ∷ more) names = absurd (omega (arith, names.low 0 (omega arith), names.high 0 (omega arith)))
all_named before after i (suc n) [] names =
    all_named before after (i + 1) n [] (record {
      up = names.up;
      low = λ k h. absurd (omega arith);
      high = λ k h. absurd (omega arith);
      each = λ j p q d. names.each j (omega (arith, p)) (omega (arith, q)) d;
    })
    ∙ sym (left_out (pointwise nat_eq (record_at before i) (record_at after i)) (change_of before after i) (changes_from before after (i + 1) n)
    (λ d. let found = names.each i (omega arith) (omega arith) d in absurd (omega (arith, found.1))))
all_named before after i (suc n) (r ∷ more) names = elim (cases_eq r i) [
  | inl first ↦
      ap (λ y. unless_same (pointwise nat_eq (record_at before y) (record_at after y)) (change_of before after y) (changes_at before after more)) first
      ∙ ap (unless_same (pointwise nat_eq (record_at before i) (record_at after i)) (change_of before after i)) (all_named before after (i + 1) n more (record {
        up = rest r more names.up;
        low = λ k h. omega (arith, later r more names.up k h, first);
        high = λ k h. omega (arith, names.high (k + 1) (omega (arith, h)), at_next r more k);
        each = λ j p q d. Contains-tail r more j (λ e. absurd (omega (arith, e, first, p))) (names.each j (omega (arith, p)) (omega (arith, q)) d);
      }))
  | inr other ↦
      let above : i < r = omega (arith, names.low 0 (omega arith), other) in
      all_named before after (i + 1) n (r ∷ more) (record {
        up = names.up;
        low = λ k h. from_first r more names.up (i + 1) (omega (arith, above)) k h;
        high = λ k h. omega (arith, names.high k h);
        each = λ j p q d. names.each j (omega (arith, p)) (omega (arith, q)) d;
      })
      ∙ sym (left_out (pointwise nat_eq (record_at before i) (record_at after i)) (change_of before after i) (changes_from before after (i + 1) n)
      (λ d. not_there r more names.up i above (names.each i (omega arith) (omega arith) d)))
]

pub listed_are_all : ListedChangesAreAll
listed_are_all before after listed up below each =
    all_named before after 0 (length after) listed (record {
      up = up;
      low = λ k h. omega arith;
      high = λ k h. omega (arith, below k h);
      each = λ j p q d. each j (omega (arith, q)) d;
    })
