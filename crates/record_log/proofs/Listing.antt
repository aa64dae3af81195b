-- The records that some of several publications changed.
use Rattle.std.proofs.Common.{◌≡◌, ℕ, ◌+◌, ◌<◌, ◌≤◌, ap, ◌∙◌, sym, subst, refl, inl, inr, arith, All, Bool, true, false, ◌||◌, Option, Some, None, List, [], ◌∷◌, ◌++◌, length, get_or, take, drop, min}
use Rattle.std.proofs.lemmas.Bool.{both_ways, cases_Bool, cases_lt, eqb-true, or_cases, cond-true, cond-false, eq-eqb, ne_eqb, leb-true, leb-false, or_from, or_left, or_right, or_parts}
use Rattle.std.proofs.lemmas.List.{map-append, map_more, take-append-drop, drop_more}
use Rattle.std.proofs.lemmas.List.Elements.{All-head, All-tail}
use Rattle.std.proofs.lemmas.List.Folds.{list_any-append}
use Rattle.std.specs.Option.{IfSome}
use Rattle.std.specs.Prelude.{nat_eq, nat_le}
use Rattle.record_log.specs.OldRecords.{OldBytes, OldRecord, first_from, has_old, old_bytes_in}
use Rattle.record_log.specs.Logs.{AreInside, is_listed, oldest_bytes}
use Rattle.record_log.specs.Steps.{IsNext, lesser, olds_of}

-- the least number from one on in one list, if there is one
abbrev pub IsFirst : List OldRecord → ℕ → Option ℕ → Type 0
IsFirst olds least None = (i : ℕ) → least ≤ i → has_old olds i ≡ false
IsFirst olds least (Some n) = (least ≤ n) × (has_old olds n ≡ true) × ((i : ℕ) → least ≤ i → i < n → has_old olds i ≡ false)

none_from : (olds : List OldRecord) (least : ℕ) → first_from olds least ≡ None → (i : ℕ) → least ≤ i → has_old olds i ≡ false
none_from [] least none i from = refl
none_from (old ∷ more) least none i from = elim (cases_Bool (nat_le least old.index)) [
  | inl from_here ↦
      let some : first_from (old ∷ more) least ≡ Some old.index = cond-true (nat_le least old.index) (Some old.index) (first_from more least) from_here in
      cc
  | inr later ↦
      let rest : first_from more least ≡ None =
      sym (cond-false (nat_le least old.index) (Some old.index) (first_from more least) later) ∙ none in
      or_from (nat_eq old.index i) (has_old more i) (ne_eqb old.index i (λ e. absurd (omega (arith, leb-false least old.index later, from, e))))
      (none_from more least rest i from)
]

some_from : (olds : List OldRecord) (least n : ℕ) → first_from olds least ≡ Some n → (least ≤ n) × (has_old olds n ≡ true)
some_from [] least n some = cc
some_from (old ∷ more) least n some = elim (cases_Bool (nat_le least old.index)) [
  | inl from_here ↦
      let first : first_from (old ∷ more) least ≡ Some old.index = cond-true (nat_le least old.index) (Some old.index) (first_from more least) from_here in
      let same : old.index ≡ n = cc in
      (omega (arith, leb-true least old.index from_here, same), or_left (nat_eq old.index n) (has_old more n) (eq-eqb old.index n same))
  | inr later ↦
      let rest : first_from more least ≡ Some n =
      sym (cond-false (nat_le least old.index) (Some old.index) (first_from more least) later) ∙ some in
      let there = some_from more least n rest in
      (there.0, or_right (nat_eq old.index n) (has_old more n) there.1)
]

pub is_first : (olds : List OldRecord) (least : ℕ) (r : Option ℕ) → r ≡ first_from olds least →
    IfSome r (λ n. (i : ℕ) → least ≤ i → i < n → has_old olds i ≡ false) → IsFirst olds least r
is_first olds least None is before = none_from olds least (sym is)
is_first olds least (Some n) is before =
    let there = some_from olds least n (sym is) in
    (there.0, there.1, before)

-- ---- one list more
or_false : (b : Bool) → (b || false) ≡ b
or_false true = refl
or_false false = refl

listed_more : (lists : List (List OldRecord)) (olds : List OldRecord) (i : ℕ) → is_listed (lists ++ olds ∷ []) i ≡ (is_listed lists i || has_old olds i)
listed_more lists olds i =
    list_any-append (λ (o : List OldRecord). has_old o i) lists (olds ∷ []) ∙ ap (λ b. is_listed lists i || b) (or_false (has_old olds i))

pub in_none : (lists : List (List OldRecord)) (olds : List OldRecord) (i : ℕ) → is_listed lists i ≡ false → has_old olds i ≡ false →
    is_listed (lists ++ olds ∷ []) i ≡ false
in_none lists olds i before here = listed_more lists olds i ∙ or_from (is_listed lists i) (has_old olds i) before here

before_it : (lists : List (List OldRecord)) (olds : List OldRecord) (i : ℕ) → is_listed lists i ≡ true → is_listed (lists ++ olds ∷ []) i ≡ true
before_it lists olds i before = listed_more lists olds i ∙ or_left (is_listed lists i) (has_old olds i) before

in_it : (lists : List (List OldRecord)) (olds : List OldRecord) (i : ℕ) → has_old olds i ≡ true → is_listed (lists ++ olds ∷ []) i ≡ true
in_it lists olds i here = listed_more lists olds i ∙ or_right (is_listed lists i) (has_old olds i) here

next_more : (lists : List (List OldRecord)) (olds : List OldRecord) (least : ℕ) (a b : Option ℕ) → IsNext lists least a → IsFirst olds least b →
    IsNext (lists ++ olds ∷ []) least (lesser a b)
next_more lists olds least None None p q = λ i h. in_none lists olds i (p i h) (q i h)
next_more lists olds least None (Some y) p q =
    (q.0, in_it lists olds y q.1, λ i h l. in_none lists olds i (p i h) (q.2 i h l))
next_more lists olds least (Some x) None p q =
    (p.0, before_it lists olds x p.1, λ i h l. in_none lists olds i (p.2 i h l) (q i h))
next_more lists olds least (Some x) (Some y) p q = elim (cases_lt y x) [
  | inl second ↦
      let is : y ≡ min x y = omega (arith, second) in
      subst (λ n. IsNext (lists ++ olds ∷ []) least (Some n)) is
      (q.0, in_it lists olds y q.1, λ i h l. in_none lists olds i (p.2 i h (omega (arith, l, second))) (q.2 i h l))
  | inr first ↦
      let is : x ≡ min x y = omega (arith, first) in
      subst (λ n. IsNext (lists ++ olds ∷ []) least (Some n)) is
      (p.0, before_it lists olds x p.1, λ i h l. in_none lists olds i (p.2 i h l) (q.2 i h (omega (arith, l, first))))
]

-- the lists up to place k, and the one there
pub olds_more : (lists : List OldBytes) (k : ℕ) (o : OldBytes) → k < length lists → o ≡ get_or lists k o →
    olds_of (take (k + 1) lists) ≡ olds_of (take k lists) ++ o.records ∷ []
olds_more lists k o h is =
    map_more (λ (x : OldBytes). x.records) lists k o h
    ∙ ap (λ (x : OldBytes). olds_of (take k lists) ++ x.records ∷ []) (sym is)

pub next_step : (lists : List OldBytes) (k least : ℕ) (o : OldBytes) (a b c : Option ℕ) → k < length lists → o ≡ get_or lists k o →
    IsNext (olds_of (take k lists)) least a → IsFirst o.records least b → c ≡ lesser a b → IsNext (olds_of (take (k + 1) lists)) least c
next_step lists k least o a b c h is before here made =
    subst (λ (r : Option ℕ). IsNext (olds_of (take (k + 1) lists)) least r) (sym made)
    (subst (λ (l : List (List OldRecord)). IsNext l least (lesser a b)) (sym (olds_more lists k o h is))
    (next_more (olds_of (take k lists)) o.records least a b before here))

-- ---- the oldest bytes
-- the lists before place k, the one there, and those after it
olds_split : (lists : List OldBytes) (k : ℕ) (o : OldBytes) → k < length lists → o ≡ get_or lists k o →
    olds_of lists ≡ olds_of (take k lists) ++ o.records ∷ olds_of (drop (k + 1) lists)
olds_split lists k o h is =
    ap olds_of (sym (take-append-drop k lists))
    ∙ map-append (λ (x : OldBytes). x.records) (take k lists) (drop k lists)
    ∙ ap (λ (more : List OldBytes). olds_of (take k lists) ++ olds_of more) (drop_more lists k o h)
    ∙ ap (λ (x : OldBytes). olds_of (take k lists) ++ x.records ∷ olds_of (drop (k + 1) lists)) (sym is)

first_that_has : (lists : List (List OldRecord)) (olds : List OldRecord) (more : List (List OldRecord)) (i : ℕ) → is_listed lists i ≡ false →
    has_old olds i ≡ true → (oldest_bytes (lists ++ olds ∷ more) i ≡ old_bytes_in olds i) × (is_listed (lists ++ olds ∷ more) i ≡ true)
first_that_has [] olds more i none here =
    (cond-true (has_old olds i) (old_bytes_in olds i) (oldest_bytes more i) here, or_left (has_old olds i) (is_listed more i) here)
first_that_has (first ∷ lists) olds more i none here =
    let parts = or_parts (has_old first i) (is_listed lists i) none in
    let rest = first_that_has lists olds more i parts.1 here in (
      cond-false (has_old first i) (old_bytes_in first i) (oldest_bytes (lists ++ olds ∷ more) i) parts.0 ∙ rest.0,
      or_right (has_old first i) (is_listed (lists ++ olds ∷ more) i) rest.1,
    )

-- the bytes in the list in place k, if none before it has the record
pub oldest_there : (lists : List OldBytes) (k i : ℕ) (o : OldBytes) → k < length lists → o ≡ get_or lists k o →
    is_listed (olds_of (take k lists)) i ≡ false → has_old o.records i ≡ true →
    (oldest_bytes (olds_of lists) i ≡ old_bytes_in o.records i) × (is_listed (olds_of lists) i ≡ true)
oldest_there lists k i o h is none here =
    let found = first_that_has (olds_of (take k lists)) o.records (olds_of (drop (k + 1) lists)) i none here in
    let split = olds_split lists k o h is in
    (ap (λ (l : List (List OldRecord)). oldest_bytes l i) split ∙ found.0, ap (λ (l : List (List OldRecord)). is_listed l i) split ∙ found.1)

pub none_yet : (lists : List OldBytes) (k i : ℕ) (o : OldBytes) → k < length lists → o ≡ get_or lists k o →
    is_listed (olds_of (take k lists)) i ≡ false → has_old o.records i ≡ false → is_listed (olds_of (take (k + 1) lists)) i ≡ false
none_yet lists k i o h is none here =
    ap (λ (l : List (List OldRecord)). is_listed l i) (olds_more lists k o h is) ∙ in_none (olds_of (take k lists)) o.records i none here

-- ---- records that there are
old_inside : (olds : List OldRecord) (count i : ℕ) → All (λ (old : OldRecord). old.index < count) olds → has_old olds i ≡ true → i < count
old_inside [] count i each there = absurd (both_ways false refl there)
old_inside (old ∷ more) count i each there = elim (or_cases (nat_eq old.index i) (has_old more i) there) [
  | inl here ↦ omega (arith, All-head (λ (x : OldRecord). x.index < count) old more each, eqb-true old.index i here)
  | inr rest ↦ old_inside more count i (All-tail (λ (x : OldRecord). x.index < count) old more each) rest
]

pub listed_inside : (lists : List (List OldRecord)) (count i : ℕ) → AreInside count lists → is_listed lists i ≡ true → i < count
listed_inside [] count i each there = absurd (both_ways false refl there)
listed_inside (olds ∷ more) count i each there = elim (or_cases (has_old olds i) (is_listed more i) there) [
  | inl here ↦ old_inside olds count i (All-head (All (λ (x : OldRecord). x.index < count)) olds more each) here
  | inr rest ↦ listed_inside more count i (All-tail (All (λ (x : OldRecord). x.index < count)) olds more each) rest
]
