-- The changes between two lists of records.
use Rattle.std.proofs.Common.{◌≡◌, ◌≢◌, ℕ, zero, suc, ◌+◌, ◌<◌, ◌≤◌, ap, ◌∙◌, sym, refl, inl, inr, arith, All, Bool, true, false, List, [], length}
use Rattle.std.proofs.lemmas.Bool.{cases_eq, cases_lt}
use Rattle.std.proofs.lemmas.List.{get_or_past}
use Rattle.std.proofs.lemmas.List.Elements.{All-head, All-tail, All-cons}
use Rattle.std.proofs.lemmas.Slice.Eq.{slice_eq-Decides}
use Rattle.std.specs.List.{range_with_len}
use Rattle.std.specs.Cmp.{unsigned_Decides}
use Rattle.std.specs.Cmp.Lexicographic.{pointwise}
use Rattle.std.specs.Prelude.{nat_eq}
use Rattle.digit_pack.specs.Layout.{Shape, record_at}
use Rattle.hint_changes.specs.Changes.{ChangedRecord, IsChangeBetween, NameOnce, change_of, unless_same, changes_at}
use Rattle.hint_changes.specs.Laws.{ChangesBetweenLead}

-- the changes of n records, from record i on
abbrev pub changes_from : List (List ℕ) → List (List ℕ) → ℕ → ℕ → List ChangedRecord
changes_from before after i n = changes_at before after (range_with_len i n)

-- what holds of a change and of those after it holds of both
both : (P : ChangedRecord → Type 0) (b : Bool) (c : ChangedRecord) (more : List ChangedRecord) → P c → All P more → All P (unless_same b c more)
both P true c more h each = each
both P false c more h each = All-cons P c more h each

-- the changes from a record on name no record before it
from : (before after : List (List ℕ)) (i n : ℕ) → All (λ (c : ChangedRecord). i ≤ c.index) (changes_from before after i n)
from before after i zero = λ k d h. absurd (omega arith)
from before after i (suc n) =
    let later : All (λ (c : ChangedRecord). i ≤ c.index) (changes_from before after (i + 1) n) = λ k d h.
    omega (arith, from before after (i + 1) n k d h) in
    both (λ c. i ≤ c.index) (pointwise nat_eq (record_at before i) (record_at after i)) (change_of before after i)
    (changes_from before after (i + 1) n) (omega arith) later

once_more : (b : Bool) (c : ChangedRecord) (more : List ChangedRecord) → All (λ (d : ChangedRecord). c.index ≢ d.index) more → NameOnce more →
    NameOnce (unless_same b c more)
once_more true c more apart once = once
once_more false c more apart once = (apart, once)

once : (before after : List (List ℕ)) (i n : ℕ) → NameOnce (changes_from before after i n)
once before after i zero = tt
once before after i (suc n) =
    once_more (pointwise nat_eq (record_at before i) (record_at after i)) (change_of before after i) (changes_from before after (i + 1) n)
    (λ k d h same. absurd (omega (arith, from before after (i + 1) n k d h, same))) (once before after (i + 1) n)

each : (l : Shape) (before after : List (List ℕ)) (i n : ℕ) → length before ≡ length after → i + n ≤ length after → length after ≤ l.count →
    All (IsChangeBetween l before after) (changes_from before after i n)
each l before after i zero long inside room = λ k d h. absurd (omega arith)
each l before after i (suc n) long inside room =
    both (IsChangeBetween l before after) (pointwise nat_eq (record_at before i) (record_at after i)) (change_of before after i)
    (changes_from before after (i + 1) n) (record { inside = omega (arith, inside, room); there = omega (arith, inside, long); old = refl; new = refl })
    (each l before after (i + 1) n long (omega (arith, inside)) room)

-- a record that no change names is the same: record j, where record i is the one before the others
same_or_named : (before after : List (List ℕ)) (i j : ℕ) (b : Bool) (more : List ChangedRecord) →
    b ≡ pointwise nat_eq (record_at before i) (record_at after i) → (i ≢ j → All (λ (c : ChangedRecord). c.index ≢ j) more → record_at after j ≡ record_at before j) →
    All (λ (c : ChangedRecord). c.index ≢ j) (unless_same b (change_of before after i) more) → record_at after j ≡ record_at before j
same_or_named before after i j true more is others unnamed = elim (cases_eq i j) [
  | inl same ↦
      ap (record_at after) (sym same) ∙ sym ((slice_eq-Decides unsigned_Decides (record_at before i) (record_at after i) true is).0 refl)
      ∙ ap (record_at before) same
  | inr apart ↦ others apart unnamed
]
same_or_named before after i j false more is others unnamed =
    others (All-head (λ (c : ChangedRecord). c.index ≢ j) (change_of before after i) more unnamed)
    (All-tail (λ (c : ChangedRecord). c.index ≢ j) (change_of before after i) more unnamed)

others : (before after : List (List ℕ)) (i n j : ℕ) → i ≤ j → j < i + n → All (λ (c : ChangedRecord). c.index ≢ j) (changes_from before after i n) →
    record_at after j ≡ record_at before j
others before after i zero j low high unnamed = absurd (omega (arith, low, high))
others before after i (suc n) j low high unnamed =
    same_or_named before after i j (pointwise nat_eq (record_at before i) (record_at after i)) (changes_from before after (i + 1) n) refl
    (λ apart rest. others before after (i + 1) n j (omega (arith, low, apart)) (omega (arith, high)) rest) unnamed

pub between_lead : ChangesBetweenLead
between_lead l before after long room = record {
  each = each l before after 0 (length after) long (omega arith) room;
  once = once before after 0 (length after);
  others = λ j unnamed. elim (cases_lt j (length after)) [
    | inl inside ↦ others before after 0 (length after) j (omega arith) (omega (arith, inside)) unnamed
    | inr past ↦ get_or_past after j [] (omega (arith, past)) ∙ sym (get_or_past before j [] (omega (arith, past, long)))
  ];
}
