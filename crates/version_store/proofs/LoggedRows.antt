-- The rows that a store's log names are those in which consecutive versions differ.
use Rattle.std.proofs.Common.{◌≡◌, ℕ, zero, suc, ◌+◌, ◌-◌, ◌<◌, ◌≤◌, Bool, true, false, cond, List, [], ◌∷◌, ◌++◌, length, get_or, take, Option, Some, None, refl, sym, ap, ◌∙◌, arith}
use Rattle.std.specs.Prelude.{nat_eq, nat_le, ◌&&◌, ◌||◌, filter, slice_get, unwrap_or, if◌then◌else◌}
use Rattle.std.specs.List.{flat_map, list_any, range_with_len}
use Rattle.std.proofs.lemmas.Bool.{and_parts, and_from, leb-true, le-leb, le-ltb}
use Rattle.std.proofs.lemmas.List.{append-nil, length-take, take-take, take_more}
use Rattle.std.proofs.lemmas.List.Concat.{flat_map-append}
use Rattle.std.proofs.lemmas.List.Folds.{list_any-append}
use Rattle.digit_pack.specs.Layout.{digit_rows}
use Rattle.pir_schemes.specs.declared.plan.Plan.{Plan}
use Rattle.pir_schemes.specs.Plans.{shape_at, digits_at}
use Rattle.hint_update.specs.Logs.{Log, lists_since}
use Rattle.version_store.specs.Deltas.{changed_rows, changes_of}
use Rattle.version_store.specs.Editions.{version_shape}
use Rattle.version_store.specs.Histories.{StoreState, History, current_version, version_records, next_changes, changed_since, is_recent, delta_rows, kept_log}

-- the numbers below n that are in one of the lists, ascending
abbrev pub union_below : ℕ → List (List ℕ) → List ℕ
union_below n lists = filter (λ r. list_any (nat_eq r) (flat_map (λ list. list) lists)) (range_with_len 0 n)

-- whether a log has all publications since a version
abbrev pub reaches_back : Log → ℕ → Bool
reaches_back log v = nat_le v log.version && nat_le (log.version - v) (length log.lists)

-- the rows, of n, that the publications since a version changed, ascending; none if the log lacks
-- one of these
unfoldable pub rows_logged : ℕ → Log → ℕ → Option (List ℕ)
rows_logged n log v = if reaches_back log v then Some (union_below n (lists_since log v)) else None

-- the log that a history gives a store
abbrev pub log_of : Plan → History → Log
log_of p h = record { version = current_version h; lists = take 16 (changes_of p h.current h.past) }

-- the rows that it names since a version
unfoldable pub history_rows : Plan → History → ℕ → Option (List ℕ)
history_rows p h since = rows_logged (digit_rows (shape_at p (length h.current))) (log_of p h) since

-- the same of what a store keeps
abbrev pub held_rows : StoreState → ℕ → Option (List ℕ)
held_rows s since = rows_logged (digit_rows (version_shape s.edition)) (kept_log s) since

-- ---- the lists of the log are those of consecutive versions

-- a record list of a history, counted from the current one back
unfoldable pub at_back : List (List (List ℕ)) → ℕ → List (List ℕ)
at_back all k = unwrap_or (slice_get all k) []

length-changes : (p : Plan) (current : List (List ℕ)) (past : List (List (List ℕ))) → length (changes_of p current past) ≡ length past
unfolding changes_of
length-changes p current [] = refl
length-changes p current (before ∷ past) = ap suc (length-changes p before past)

change_at : (p : Plan) (current : List (List ℕ)) (past : List (List (List ℕ))) (k : ℕ) → k < length past →
    get_or (changes_of p current past) k [] ≡ changed_rows (digits_at p (at_back (current ∷ past) (suc k))) (digits_at p (at_back (current ∷ past) k))
unfolding changes_of at_back
change_at p current [] k lt = absurd (omega arith)
change_at p current (before ∷ past) zero lt = refl
change_at p current (before ∷ past) (suc k) lt = change_at p before past k (omega arith)

-- the records of a version are those so far back
pub records_back : (h : History) (v k : ℕ) → v + k ≡ current_version h → version_records h v ≡ at_back (h.current ∷ h.past) k
unfolding at_back
records_back h v k e =
    let low : v ≤ current_version h = omega (arith, e) in
    let back : current_version h - v ≡ k = omega (arith, e) in
    ap (λ (b : Bool). unwrap_or (cond b None (slice_get (h.current ∷ h.past) (current_version h - v))) []) (le-ltb (current_version h) v low)
    ∙ ap (λ (i : ℕ). unwrap_or (slice_get (h.current ∷ h.past) i) []) back

next_is : (p : Plan) (h : History) (v k : ℕ) → v + suc k ≡ current_version h → k < length h.past →
    next_changes p h v ≡ get_or (changes_of p h.current h.past) k []
next_is p h v k e lt =
    rw (records_back h v (suc k) e, records_back h (v + 1) k (omega (arith, e))) (sym (change_at p h.current h.past k lt))

swap : (a b : Bool) → (a || b) ≡ (b || a)
swap true true = refl
swap true false = refl
swap false true = refl
swap false false = refl

-- a row is in one of the newest k lists exactly when one of the newest k pairs of versions differs
-- in it
in_newest : (p : Plan) (h : History) (r k : ℕ) → k ≤ length h.past →
    list_any (nat_eq r) (flat_map (λ list. list) (take k (changes_of p h.current h.past)))
    ≡ list_any (λ v. list_any (nat_eq r) (next_changes p h v)) (range_with_len (current_version h - k) k)
in_newest p h r zero le = refl
in_newest p h r (suc k) le =
    let all : List (List ℕ) = changes_of p h.current h.past in
    let last : List ℕ = get_or all k [] in
    let before : List (List ℕ) = take k all in
    let v : ℕ = current_version h - suc k in
    let back : v + suc k ≡ current_version h = omega arith in
    let next : v + 1 ≡ current_version h - k = omega arith in
    let inside : k < length all = omega (arith, length-changes p h.current h.past) in
    let up : suc k ≡ k + 1 = omega arith in
    let more : take (suc k) all ≡ before ++ last ∷ [] = ap (λ n. take n all) up ∙ take_more all k [] inside in
    let one : flat_map (λ list. list) (last ∷ []) ≡ last = append-nil last in
    let split : list_any (nat_eq r) (flat_map (λ list. list) (take (suc k) all))
    ≡ (list_any (nat_eq r) (flat_map (λ list. list) before) || list_any (nat_eq r) last) =
    ap (λ (ls : List (List ℕ)). list_any (nat_eq r) (flat_map (λ list. list) ls)) more
    ∙ ap (list_any (nat_eq r)) (flat_map-append (λ (list : List ℕ). list) before (last ∷ []))
    ∙ list_any-append (nat_eq r) (flat_map (λ list. list) before) (flat_map (λ list. list) (last ∷ []))
    ∙ ap (λ (xs : List ℕ). list_any (nat_eq r) (flat_map (λ list. list) before) || list_any (nat_eq r) xs) one in
    let later : list_any (λ v. list_any (nat_eq r) (next_changes p h v)) (range_with_len (v + 1) k)
    ≡ list_any (nat_eq r) (flat_map (λ list. list) before) =
    ap (λ (a : ℕ). list_any (λ v. list_any (nat_eq r) (next_changes p h v)) (range_with_len a k)) next ∙ sym (in_newest p h r k (omega arith)) in
    split ∙ swap (list_any (nat_eq r) (flat_map (λ list. list) before)) (list_any (nat_eq r) last)
    ∙ ap (λ (xs : List ℕ). list_any (nat_eq r) xs || list_any (nat_eq r) (flat_map (λ list. list) before)) (sym (next_is p h v k back (omega arith)))
    ∙ ap (λ (b : Bool). list_any (nat_eq r) (next_changes p h v) || b) (sym later)

-- ---- the log reaches back to a version exactly when it is a recent one

same_test : (a b : Bool) → (a ≡ true → b ≡ true) → (b ≡ true → a ≡ true) → a ≡ b
same_test true b f g = sym (f refl)
same_test false true f g = g refl
same_test false false f g = refl

recent_is : (p : Plan) (h : History) (since : ℕ) → is_recent h since ≡ reaches_back (log_of p h) since
recent_is p h since =
    let now : ℕ = current_version h in
    let size : length (take 16 (changes_of p h.current h.past)) ≤ 16 = omega (arith, length-take 16 (changes_of p h.current h.past)) in
    let count = length-changes p h.current h.past in
    let kept = length-take 16 (changes_of p h.current h.past) in
    same_test (is_recent h since) (reaches_back (log_of p h) since)
    (λ e.
    let first = and_parts (nat_le h.first since) (nat_le since now && nat_le (now - since) 16) e in
    let parts = and_parts (nat_le since now) (nat_le (now - since) 16) first.1 in
    let few : now - since ≤ length (take 16 (changes_of p h.current h.past)) =
    omega (arith, leb-true h.first since first.0, leb-true since now parts.0, leb-true (now - since) 16 parts.1, count, kept) in
    and_from (nat_le since now) (nat_le (now - since) (length (take 16 (changes_of p h.current h.past)))) parts.0
    (le-leb (now - since) (length (take 16 (changes_of p h.current h.past))) few))
    (λ e.
    let parts = and_parts (nat_le since now) (nat_le (now - since) (length (take 16 (changes_of p h.current h.past)))) e in
    let low : since ≤ now = leb-true since now parts.0 in
    let within = leb-true (now - since) (length (take 16 (changes_of p h.current h.past))) parts.1 in
    and_from (nat_le h.first since) (nat_le since now && nat_le (now - since) 16) (le-leb h.first since (omega (arith, low, within, count, kept)))
    (and_from (nat_le since now) (nat_le (now - since) 16) parts.0 (le-leb (now - since) 16 (omega (arith, within, kept)))))

-- the rows of the definition are those that the log names
pub rows_as_logged : (p : Plan) (h : History) (since : ℕ) → delta_rows p h since ≡ history_rows p h since
unfolding delta_rows history_rows rows_logged
rows_as_logged p h since = by (reaches_back (log_of p h) since) refl
  where
    n : ℕ
    n = digit_rows (shape_at p (length h.current))

    -- the same rows, if the log reaches back
    same : reaches_back (log_of p h) since ≡ true → filter (changed_since p h since) (range_with_len 0 n) ≡ union_below n (lists_since (log_of p h) since)
    same e =
        let now : ℕ = current_version h in
        let all : List (List ℕ) = changes_of p h.current h.past in
        let parts = and_parts (nat_le since now) (nat_le (now - since) (length (take 16 all))) e in
        let low : since ≤ now = leb-true since now parts.0 in
        let within = leb-true (now - since) (length (take 16 all)) parts.1 in
        let few : now - since ≤ 16 = omega (arith, within, length-take 16 all) in
        let inside : now - since ≤ length h.past = omega (arith, within, length-take 16 all, length-changes p h.current h.past) in
        let from : now - (now - since) ≡ since = omega arith in
        let each : (r : ℕ) → changed_since p h since r ≡ list_any (nat_eq r) (flat_map (λ list. list) (take (now - since) (take 16 all))) = λ r.
        ap (λ (a : ℕ). list_any (λ v. list_any (nat_eq r) (next_changes p h v)) (range_with_len a (now - since))) (sym from)
        ∙ sym (in_newest p h r (now - since) inside)
        ∙ ap (λ (ls : List (List ℕ)). list_any (nat_eq r) (flat_map (λ list. list) ls)) (sym (take-take (now - since) 16 all few)) in
        ap (λ (f : ℕ → Bool). filter f (range_with_len 0 n)) (λ t r. each r t)

    by : (b : Bool) → reaches_back (log_of p h) since ≡ b →
        cond (is_recent h since) (Some (filter (changed_since p h since) (range_with_len 0 n))) None
        ≡ cond (reaches_back (log_of p h) since) (Some (union_below n (lists_since (log_of p h) since))) None
    by true e =
        ap (λ (c : Bool). cond c (Some (filter (changed_since p h since) (range_with_len 0 n))) None) (recent_is p h since ∙ e)
        ∙ ap (λ (x : List ℕ). Some x) (same e)
        ∙ sym (ap (λ (c : Bool). cond c (Some (union_below n (lists_since (log_of p h) since))) None) e)
    by false e =
        ap (λ (c : Bool). cond c (Some (filter (changed_since p h since) (range_with_len 0 n))) None) (recent_is p h since ∙ e)
        ∙ sym (ap (λ (c : Bool). cond c (Some (union_below n (lists_since (log_of p h) since))) None) e)
