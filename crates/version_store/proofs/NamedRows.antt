-- The rows that a history names since a version, and the others.
use Rattle.std.proofs.Common.{◌≡◌, ◌⊎◌, ℕ, ◌-◌, ◌<◌, ◌≤◌, Bool, true, false, cond, List, ◌∷◌, length, take, Some, None, sym, ap, ◌∙◌, arith, inl, inr}
use Rattle.std.specs.Prelude.{slice_get, if◌then◌else◌}
use Rattle.std.proofs.lemmas.Bool.{cases_Bool}
use Rattle.std.proofs.lemmas.List.{length-take, take-take}
use Rattle.matrix_u32.specs.Matrix.{row}
use Rattle.digit_pack.specs.Layout.{digit_rows}
use Rattle.pir_schemes.specs.declared.scheme.Scheme.TheVariants.{Simple}
use Rattle.pir_schemes.specs.declared.plan.Plan.{Plan}
use Rattle.pir_schemes.specs.Plans.{shape_at}
use Rattle.pir_schemes.specs.Retrievals.{hint_matrix}
use Rattle.hint_update.specs.Logs.{lists_since}
use Rattle.version_store.specs.Histories.{History, current_version, delta_rows}
use Rattle.version_store.specs.Deltas.{changes_of}
use Rattle.version_store.proofs.LoggedRows.{union_below, reaches_back, rows_logged, log_of, history_rows, rows_as_logged}
use Rattle.version_store.proofs.RowUnions.{is_in, reaches}
use Rattle.version_store.proofs.BroughtForward.{joined, unchanged_since}

some_alike : {X : Type 0} {a b : X} → Some a ≡ Some b → a ≡ b
some_alike e = cc

abbrev rows_now : Plan → History → ℕ
rows_now p h = digit_rows (shape_at p (length h.current))

-- the rows of some lists; a row of none of these lists is the same in the hints of the version
-- named and of the current one
pub record NamesRows (p : Plan) (h : History) (before : List (List ℕ)) (rows : List ℕ) : Type 0 where
  pub lists : List (List ℕ)
  pub rows_are : rows ≡ union_below (digit_rows (shape_at p (length h.current))) lists
  pub same : (r : ℕ) → r < digit_rows (shape_at p (length h.current)) → is_in (joined lists) r ≡ false →
      row (hint_matrix Simple p before) r ≡ row (hint_matrix Simple p h.current) r

logged_named : (p : Plan) (h : History) (since : ℕ) (before : List (List ℕ)) (rows : List ℕ) →
    slice_get (h.current ∷ h.past) (current_version h - since) ≡ Some before →
    (if reaches_back (log_of p h) since then Some (union_below (rows_now p h) (lists_since (log_of p h) since)) else None) ≡ Some rows →
    (reaches_back (log_of p h) since ≡ true) ⊎ (reaches_back (log_of p h) since ≡ false) → NamesRows p h before rows
logged_named p h since before rows at e (inl within) =
    let is : rows ≡ union_below (rows_now p h) (lists_since (log_of p h) since) =
    some_alike (sym e ∙ ap (λ (b : Bool). cond b (Some (union_below (rows_now p h) (lists_since (log_of p h) since))) None) within) in
    let back = reaches (log_of p h) since within in
    let few : current_version h - since ≤ 16 = omega (arith, back.1, length-take 16 (changes_of p h.current h.past)) in
    let same : lists_since (log_of p h) since ≡ take (current_version h - since) (changes_of p h.current h.past) =
    take-take (current_version h - since) 16 (changes_of p h.current h.past) few in
    record {
      lists = lists_since (log_of p h) since;
      rows_are = is;
      same = λ r lt out. unchanged_since p h.current h.past (current_version h - since) before r lt at
          (ap (λ (ls : List (List ℕ)). is_in (joined ls) r) (sym same) ∙ out);
    }
logged_named p h since before rows at e (inr out) =
    let bad : None ≡ Some rows =
    sym (ap (λ (b : Bool). cond b (Some (union_below (rows_now p h) (lists_since (log_of p h) since))) None) out) ∙ e in
    absurd cc

-- the rows that a history names since a version of these records
pub rows_named : (p : Plan) (h : History) (since : ℕ) (before : List (List ℕ)) (rows : List ℕ) →
    slice_get (h.current ∷ h.past) (current_version h - since) ≡ Some before → delta_rows p h since ≡ Some rows → NamesRows p h before rows
unfolding history_rows rows_logged
rows_named p h since before rows at e = logged_named p h since before rows at (sym (rows_as_logged p h since) ∙ e) (cases_Bool (reaches_back (log_of p h) since))
