-- Rows of a SimplePIR hint that publications left as they were.
use Rattle.std.proofs.Common.{◌≡◌, ℕ, ◌-◌, ◌<◌, ◌≤◌, zero, suc, arith, ap, ◌∙◌, sym, refl, List, [], ◌∷◌, length, take, Bool, true, false, not, Some, None}
use Rattle.std.proofs.lemmas.Bool.{and_parts, leb-true, le-ltb, or_parts}
use Rattle.std.proofs.lemmas.List.{take-take, length-take}
use Rattle.std.proofs.lemmas.List.Folds.{list_any-append}
use Rattle.std.specs.Prelude.{◌&&◌, nat_eq, nat_le, slice_get, cond}
use Rattle.std.specs.Cmp.Lexicographic.{pointwise, bytes_decides}
use Rattle.std.specs.List.{range_with_len, flat_map}
use Rattle.matrix_u32.specs.Matrix.{WordMatrix, row}
use Rattle.digit_pack.specs.Layout.{digit_rows}
use Rattle.pir_schemes.specs.declared.scheme.Scheme.TheVariants.{Simple}
use Rattle.pir_schemes.specs.declared.plan.Plan.{Plan}
use Rattle.pir_schemes.specs.Plans.{shape_at, digits_at}
use Rattle.pir_schemes.specs.Retrievals.{hint_matrix}
use Rattle.hint_update.specs.Logs.{Log, lists_since}
use Rattle.version_store.specs.Deltas.{padded_row, differs_at, changed_rows, changes_of}
use Rattle.version_store.proofs.LoggedRows.{union_below, reaches_back, rows_logged, history_rows, rows_as_logged}
use Rattle.version_store.specs.Histories.{current_version}
use Rattle.version_store.specs.Laws.{UnchangedRowsStay}
use Rattle.version_store.proofs.Widened.{same_hint_row}
use Rattle.version_store.proofs.RowUnions.{is_in, in_range, in_filter}

-- a row that did not change
kept_row : (old new : WordMatrix) (r : ℕ) → r < new.rows → is_in (changed_rows old new) r ≡ false → padded_row old new old r ≡ padded_row old new new r
unfolding changed_rows
kept_row old new r below gone =
    let both : (differs_at old new r && is_in (range_with_len 0 new.rows) r) ≡ false = sym (in_filter (differs_at old new) (range_with_len 0 new.rows) r) ∙ gone in
    let inside : is_in (range_with_len 0 new.rows) r ≡ true = in_range 0 new.rows r (omega arith) (omega arith) in
    (bytes_decides (padded_row old new old r) (padded_row old new new r)).0
    (by (pointwise nat_eq (padded_row old new old r) (padded_row old new new r)) (is_in (range_with_len 0 new.rows) r) both inside)
  where
    by : (b c : Bool) → (not b && c) ≡ false → c ≡ true → b ≡ true
    by true c e f = refl
    by false c e f = let bad : true ≡ false = sym f ∙ e in absurd cc

-- all numbers of some lists
abbrev pub joined : List (List ℕ) → List ℕ
joined lists = flat_map (λ (list : List ℕ). list) lists

-- no publication since changed the row
pub unchanged_since : (p : Plan) (current : List (List ℕ)) (past : List (List (List ℕ))) (d : ℕ) (records : List (List ℕ)) (r : ℕ) →
    r < digit_rows (shape_at p (length current)) → slice_get (current ∷ past) d ≡ Some records →
    is_in (joined (take d (changes_of p current past))) r ≡ false →
    row (hint_matrix Simple p records) r ≡ row (hint_matrix Simple p current) r
unfolding changes_of
unchanged_since p current past zero records r below is gone =
    let same : current ≡ records = cc in ap (λ rs. row (hint_matrix Simple p rs) r) (sym same)
unchanged_since p current [] (suc d) records r below is gone = let bad : None ≡ Some records = is in absurd cc
unchanged_since p current (before ∷ past) (suc d) records r below is gone =
    let first : List ℕ = changed_rows (digits_at p before) (digits_at p current) in
    let others : List ℕ = joined (take d (changes_of p before past)) in
    let both : (is_in first r ≡ false) × (is_in others r ≡ false) =
    or_parts (is_in first r) (is_in others r) (sym (list_any-append (nat_eq r) first others) ∙ gone) in
    unchanged_since p before past d records r below is both.1
    ∙ same_hint_row p before current r below (kept_row (digits_at p before) (digits_at p current) r below both.0)

some_rows : (n : ℕ) (log : Log) (v : ℕ) (rows : List ℕ) → rows_logged n log v ≡ Some rows →
    (reaches_back log v ≡ true) × (rows ≡ union_below n (lists_since log v))
unfolding rows_logged
some_rows n log v rows e = by (reaches_back log v) e
  where
    by : (b : Bool) → cond b (Some (union_below n (lists_since log v))) None ≡ Some rows → (b ≡ true) × (rows ≡ union_below n (lists_since log v))
    by true e = (refl, cc)
    by false e = let bad : None ≡ Some rows = e in absurd cc

pub unchanged_rows_stay : UnchangedRowsStay
unfolding history_rows
unchanged_rows_stay p h since rows records given version r below gone =
    let n : ℕ = digit_rows (shape_at p (length h.current)) in
    let changes : List (List ℕ) = changes_of p h.current h.past in
    let log : Log = record { version = current_version h; lists = take 16 changes } in
    let d : ℕ = current_version h - since in
    let some = some_rows n log since rows (sym (rows_as_logged p h since) ∙ given) in
    let back = and_parts (nat_le since (current_version h)) (nat_le d (length (take 16 changes))) some.0 in
    let low : since ≤ current_version h = leb-true since (current_version h) back.0 in
    let few : d ≤ 16 = omega (arith, leb-true d (length (take 16 changes)) back.1, length-take 16 changes) in
    let lists : take d (take 16 changes) ≡ take d changes = take-take d 16 changes few in
    let all : List ℕ = joined (take d (take 16 changes)) in
    let filtered : (is_in all r && is_in (range_with_len 0 n) r) ≡ false =
    sym (in_filter (is_in all) (range_with_len 0 n) r) ∙ ap (λ (xs : List ℕ). is_in xs r) (sym some.1) ∙ gone in
    let inside : is_in (range_with_len 0 n) r ≡ true = in_range 0 n r (omega arith) (omega arith) in
    let none : is_in all r ≡ false = by (is_in all r) (is_in (range_with_len 0 n) r) filtered inside in
    let here : slice_get (h.current ∷ h.past) d ≡ Some records =
    sym (ap (λ b. cond b None (slice_get (h.current ∷ h.past) d)) (le-ltb (current_version h) since low)) ∙ version in
    unchanged_since p h.current h.past d records r below here
    (ap (λ (ls : List (List ℕ)). is_in (joined ls) r) (sym lists) ∙ none)
  where
    by : (b c : Bool) → (b && c) ≡ false → c ≡ true → b ≡ false
    by true c e f = sym f ∙ e
    by false c e f = refl
