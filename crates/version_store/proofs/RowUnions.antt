-- Ascending rows that are in some lists, and a log's answer.
use Rattle.std.proofs.Common.{◌≡◌, ℕ, ◌+◌, ◌-◌, ◌<◌, ◌≤◌, zero, suc, arith, ap, ◌∙◌, sym, refl, subst, inl, inr, List, [], ◌∷◌, length, filter, Bool, true, false, cond, Option, Some, None, Result, Ok, Err}
use Rattle.std.proofs.lemmas.Bool.{cases_eq, cases_lt, eq-eqb, ne_eqb, eqb-true, le-leb, leb-true, and_parts, and_from, false_from_ne_true, true_from_ne_false}
use Rattle.std.proofs.lemmas.List.Elements.{All-contains, All-nil, All-append, All-head, All-tail, All-take, All-weaker, All-contains_itself}
use Rattle.std.proofs.lemmas.List.FromFn.{get_or-range_with_len, length-range_with_len}
use Rattle.std.proofs.lemmas.List.Kept.{IsStrictlyIncreasing-filter, AllPairs-from_increasing}
use Rattle.std.proofs.lemmas.Map.Views.{list_any-from_Contains, Contains-from_any}
use Rattle.std.specs.Prelude.{◌||◌, ◌&&◌, ◌↔◌, All, Contains, nat_eq, nat_le, slice_index, option_map, IfOk, IfSome, IsNone}
use Rattle.std.specs.Cmp.{nat_eq_equiv}
use Rattle.std.specs.List.{range_with_len, flat_map, list_any, AllPairs}
use Rattle.std.specs.List.Sorted.{IsStrictlyIncreasing}
use Rattle.std.specs.declared.vec.Vec.{Vec}
use Rattle.std.specs.declared.alloc.Global.{Global}
use Rattle.std.specs.declared.alloc.AllocError.{AllocError}
use Rattle.hint_update.specs.Logs.{Log, ReachesBack, lists_since, AreRowsOf}
use Rattle.version_store.proofs.LoggedRows.{union_below, reaches_back, rows_logged}

-- whether a number is in a list
abbrev pub is_in : List ℕ → ℕ → Bool
is_in xs r = list_any (nat_eq r) xs

-- each number is below all later ones
abbrev Rises : List ℕ → Type 0
Rises [] = Unit {0}
Rises (x ∷ xs) = All (λ y. x < y) xs × Rises xs

rises : (xs : List ℕ) → IsStrictlyIncreasing xs → Rises xs
rises xs h = by xs (λ i j d l p. AllPairs-from_increasing xs h i j d l p)
  where
    by : (xs : List ℕ) → AllPairs (λ x y. x < y) xs → Rises xs
    by [] h = tt
    by (x ∷ xs) h = (λ k d l. h 0 (suc k) d (omega arith) (omega (arith, l)), by xs (λ i j d l p. h (suc i) (suc j) d (omega arith) (omega (arith, p))))

-- a number below all of a list is not in it
not_in : (x : ℕ) (xs : List ℕ) → All (λ y. x < y) xs → is_in xs x ≡ false
not_in x [] h = refl
not_in x (y ∷ xs) h =
    let below : x < y = All-head (λ y. x < y) y xs h in
    ap (λ b. b || is_in xs x) (ne_eqb x y (λ e. absurd (omega arith))) ∙ not_in x xs (All-tail (λ y. x < y) y xs h)

all_above : (x y : ℕ) (ys : List ℕ) → x < y → All (λ z. y < z) ys → All (λ z. x < z) ys
all_above x y ys l h = λ k d p. let at = h k d p in omega arith

-- rising lists with the same numbers are the same
same_rising : (xs ys : List ℕ) → Rises xs → Rises ys → ((r : ℕ) → is_in xs r ≡ is_in ys r) → xs ≡ ys
same_rising [] [] f g same = refl
same_rising [] (y ∷ ys) f g same =
    let bad : false ≡ true = same y ∙ ap (λ b. b || is_in ys y) (eq-eqb y y refl) in absurd cc
same_rising (x ∷ xs) [] f g same =
    let bad : true ≡ false = sym (ap (λ b. b || is_in xs x) (eq-eqb x x refl)) ∙ same x in absurd cc
same_rising (x ∷ xs) (y ∷ ys) f g same = elim (cases_eq x y) [
  | inl e ↦
      let first : All (λ z. x < z) ys = subst (λ v. All (λ z. v < z) ys) (sym e) g.0 in
      let others : (r : ℕ) → is_in xs r ≡ is_in ys r = λ r. elim (cases_eq r x) [
        | inl here ↦
            ap (is_in xs) here ∙ not_in x xs f.0 ∙ sym (ap (is_in ys) here ∙ not_in x ys first)
        | inr apart ↦
            sym (ap (λ b. b || is_in xs r) (ne_eqb r x apart)) ∙ same r ∙ ap (λ b. b || is_in ys r) (ne_eqb r y (λ d. apart (d ∙ sym e)))
      ] in
      ap (λ (v : ℕ). v ∷ xs) e ∙ ap (λ (zs : List ℕ). y ∷ zs) (same_rising xs ys f.1 g.1 others)
  | inr apart ↦ elim (cases_lt x y) [
    | inl l ↦
        let bad : true ≡ false =
        sym (ap (λ b. b || is_in xs x) (eq-eqb x x refl)) ∙ same x ∙ ap (λ b. b || is_in ys x) (ne_eqb x y apart) ∙ not_in x ys (all_above x y ys l g.0) in absurd cc
    | inr le ↦
        let l : y < x = omega (arith, apart) in
        let bad : false ≡ true =
        sym (ap (λ b. b || is_in xs y) (ne_eqb y x (λ e. apart (sym e))) ∙ not_in y xs (all_above y x xs l f.0)) ∙ same y
        ∙ ap (λ b. b || is_in ys y) (eq-eqb y y refl) in absurd cc
  ]
]

-- ---- unions
pub in_range : (a n r : ℕ) → a ≤ r → r < a + n → is_in (range_with_len a n) r ≡ true
in_range a zero r low high = absurd (omega arith)
in_range a (suc n) r low high = elim (cases_eq r a) [
  | inl here ↦ ap (λ b. b || is_in (range_with_len (a + 1) n) r) (eq-eqb r a here)
  | inr apart ↦
      ap (λ b. b || is_in (range_with_len (a + 1) n) r) (ne_eqb r a apart)
      ∙ in_range (a + 1) n r (omega (arith, apart)) (omega arith)
]

pub range_rises : (a n : ℕ) → IsStrictlyIncreasing (range_with_len a n)
range_rises a n k h =
    let long : length (range_with_len a n) ≡ n = length-range_with_len a n in
    let here : slice_index (range_with_len a n) k ≡ a + k = get_or-range_with_len a n k 0 (omega (arith, long)) in
    let next : slice_index (range_with_len a n) (k + 1) ≡ a + (k + 1) = get_or-range_with_len a n (k + 1) 0 (omega (arith, long)) in
    omega (arith, here, next)

-- the numbers of a filter
pub in_filter : (p : ℕ → Bool) (xs : List ℕ) (r : ℕ) → is_in (filter p xs) r ≡ (p r && is_in xs r)
in_filter p [] r = none (p r)
  where
    none : (b : Bool) → false ≡ (b && false)
    none true = refl
    none false = refl
in_filter p (x ∷ xs) r = elim (cases_eq r x) [
  | inl here ↦ at (p x) (p r) (ap p (sym here)) (eq-eqb r x here) (in_filter p xs r)
  | inr apart ↦ past (p x) (ne_eqb r x apart) (in_filter p xs r)
]
  where
    at : (b c : Bool) → b ≡ c → nat_eq r x ≡ true → is_in (filter p xs) r ≡ (c && is_in xs r) →
        is_in (cond b (x ∷ filter p xs) (filter p xs)) r ≡ (c && (nat_eq r x || is_in xs r))
    at true true e f more = ap (λ b. b || is_in (filter p xs) r) f ∙ sym (ap (λ b. b || is_in xs r) f)
    at false false e f more = more
    at true false e f more = let bad : true ≡ false = e in absurd cc
    at false true e f more = let bad : false ≡ true = e in absurd cc

    past : (b : Bool) → nat_eq r x ≡ false → is_in (filter p xs) r ≡ (p r && is_in xs r) →
        is_in (cond b (x ∷ filter p xs) (filter p xs)) r ≡ (p r && (nat_eq r x || is_in xs r))
    past true f more = ap (λ b. b || is_in (filter p xs) r) f ∙ more ∙ ap (λ b. p r && (b || is_in xs r)) (sym f)
    past false f more = more ∙ ap (λ b. p r && (b || is_in xs r)) (sym f)

both : (a b c : Bool) → (a ≡ true → b ≡ true) → (b ≡ true → a ≡ true) → (b ≡ true → c ≡ true) → a ≡ (b && c)
both true true true f g h = refl
both true true false f g h = let bad : false ≡ true = h refl in absurd cc
both true false c f g h = let bad : false ≡ true = f refl in absurd cc
both false true c f g h = let bad : false ≡ true = g refl in absurd cc
both false false c f g h = refl

joined_below : (n : ℕ) (lists : List (List ℕ)) → All (λ (rows : List ℕ). All (λ r. r < n) rows) lists →
    All (λ r. r < n) (flat_map (λ (list : List ℕ). list) lists)
joined_below n [] h = All-nil (λ r. r < n)
joined_below n (list ∷ lists) h =
    All-append (λ r. r < n) list (flat_map (λ (list : List ℕ). list) lists)
    (All-head (λ (rows : List ℕ). All (λ r. r < n) rows) list lists h)
    (joined_below n lists (All-tail (λ (rows : List ℕ). All (λ r. r < n) rows) list lists h))

-- the rows of lists whose rows are below n
rows_are_union : (n : ℕ) (lists : List (List ℕ)) (rows : List ℕ) → All (λ (rows : List ℕ). All (λ r. r < n) rows) lists → AreRowsOf lists rows →
    rows ≡ union_below n lists
rows_are_union n lists rows below h =
    let joined : List ℕ = flat_map (λ (list : List ℕ). list) lists in
    let all : List ℕ = range_with_len 0 n in
    let same : (r : ℕ) → is_in rows r ≡ is_in (filter (is_in joined) all) r = λ r.
    both (is_in rows r) (is_in joined r) (is_in all r)
    (λ e. list_any-from_Contains nat_eq_equiv r joined ((h.each r).0 (Contains-from_any eqb-true r rows e)))
    (λ e. list_any-from_Contains nat_eq_equiv r rows ((h.each r).1 (Contains-from_any eqb-true r joined e)))
    (λ e.
    let low : r < n = All-contains (λ r. r < n) joined r (joined_below n lists below) (Contains-from_any eqb-true r joined e) in
    in_range 0 n r (omega arith) (omega arith))
    ∙ sym (in_filter (is_in joined) all r) in
    same_rising rows (filter (is_in joined) all) (rises rows h.ascending)
    (rises (filter (is_in joined) all) (IsStrictlyIncreasing-filter (is_in joined) all (range_rises 0 n))) same

-- ---- what a log returns
pub reaches : (log : Log) (v : ℕ) → reaches_back log v ≡ true → ReachesBack log v
reaches log v e =
    let parts = and_parts (nat_le v log.version) (nat_le (log.version - v) (length log.lists)) e in
    (leb-true v log.version parts.0, leb-true (log.version - v) (length log.lists) parts.1)

reached : (log : Log) (v : ℕ) → ReachesBack log v → reaches_back log v ≡ true
reached log v h =
    and_from (nat_le v log.version) (nat_le (log.version - v) (length log.lists)) (le-leb v log.version h.0)
    (le-leb (log.version - v) (length log.lists) h.1)

answer_is : (n : ℕ) (log : Log) (v : ℕ) (found : Option (Vec ℕ Global)) → All (λ (rows : List ℕ). All (λ r. r < n) rows) log.lists →
    (IsNone found ↔ ¬ ReachesBack log v) → IfSome found (λ rows. AreRowsOf (lists_since log v) rows.items) →
    option_map (λ rows. rows.items) found ≡ rows_logged n log v
unfolding rows_logged
answer_is n log v None below none rows =
    sym (ap (λ b. cond b (Some (union_below n (lists_since log v))) None) (false_from_ne_true (reaches_back log v) (λ e. none.0 refl (reaches log v e))))
answer_is n log v (Some rows) below none are =
    let yes : reaches_back log v ≡ true = true_from_ne_false (reaches_back log v) (λ e.
    let bad : IsNone {T = Vec ℕ Global} (Some rows) = none.1 (λ h. let bad : true ≡ false = sym (reached log v h) ∙ e in cc) in cc) in
    ap (λ (x : List ℕ). Some x) (rows_are_union n (lists_since log v) rows.items
    (All-take (λ (rows : List ℕ). All (λ r. r < n) rows) (log.version - v) log.lists below) are)
    ∙ sym (ap (λ b. cond b (Some (union_below n (lists_since log v))) None) yes)

pub log_answer : (n : ℕ) (log : Log) (v : ℕ) (answer : Result (Option (Vec ℕ Global)) AllocError) →
    All (λ (rows : List ℕ). All (λ r. r < n) rows) log.lists → IfOk answer (λ found. IsNone found ↔ ¬ ReachesBack log v) →
    IfOk answer (λ found. IfSome found (λ rows. AreRowsOf (lists_since log v) rows.items)) →
    IfOk answer (λ found. option_map (λ rows. rows.items) found ≡ rows_logged n log v)
log_answer n log v (Ok found) below none rows = answer_is n log v found below none rows
log_answer n log v (Err e) below none rows = tt

-- its rows are below n
rows_below : (n : ℕ) (log : Log) (v : ℕ) (found : Option (Vec ℕ Global)) → All (λ (rows : List ℕ). All (λ r. r < n) rows) log.lists →
    IfSome found (λ rows. AreRowsOf (lists_since log v) rows.items) → IfSome found (λ rows. All (λ r. r < n) rows.items)
rows_below n log v None below are = tt
rows_below n log v (Some rows) below are =
    let joined : List ℕ = flat_map (λ (list : List ℕ). list) (lists_since log v) in
    let each : All (λ r. r < n) joined =
    joined_below n (lists_since log v) (All-take (λ (rows : List ℕ). All (λ r. r < n) rows) (log.version - v) log.lists below) in
    All-weaker (Contains rows.items) (λ r. r < n) (λ r h. All-contains (λ r. r < n) joined r each ((are.each r).0 h)) rows.items
    (All-contains_itself rows.items)

pub answer_below : (n : ℕ) (log : Log) (v : ℕ) (answer : Result (Option (Vec ℕ Global)) AllocError) →
    All (λ (rows : List ℕ). All (λ r. r < n) rows) log.lists →
    IfOk answer (λ found. IfSome found (λ rows. AreRowsOf (lists_since log v) rows.items)) →
    IfOk answer (λ found. IfSome found (λ rows. All (λ r. r < n) rows.items))
answer_below n log v (Ok found) below rows = rows_below n log v found below rows
answer_below n log v (Err e) below rows = tt
