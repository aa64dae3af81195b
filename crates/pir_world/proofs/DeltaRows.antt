-- The rows of a Delta: they ascend, and each other row of the two versions' hints is the same.
use Rattle.std.proofs.Common.{◌≡◌, ◌⊎◌, ℕ, zero, suc, ◌+◌, ◌<◌, ◌≤◌, Bool, true, false, cond, List, ◌∷◌, length, filter, Some, refl, sym, ap, ◌∙◌, arith, inl, inr}
use Rattle.std.specs.Prelude.{nat_le, nat_lt, ◌&&◌}
use Rattle.std.specs.List.{range_with_len, Contains}
use Rattle.std.proofs.lemmas.Bool.{cases_Bool, le-leb, lt-ltb, eqb-true, and_from}
use Rattle.std.proofs.lemmas.Map.Views.{Contains-from_any}
use Rattle.matrix_u32.specs.Matrix.{row}
use Rattle.digit_pack.specs.Layout.{digit_rows}
use Rattle.pir_schemes.specs.declared.scheme.Scheme.TheVariants.{Simple}
use Rattle.pir_schemes.specs.declared.plan.Plan.{Plan}
use Rattle.pir_schemes.specs.Plans.{shape_at}
use Rattle.pir_schemes.specs.Retrievals.{hint_matrix}
use Rattle.version_store.specs.Histories.{History, delta_rows}
use Rattle.version_store.proofs.LoggedRows.{union_below}
use Rattle.version_store.proofs.RowUnions.{is_in, in_range, in_filter}
use Rattle.version_store.proofs.BroughtForward.{joined}
use Rattle.version_store.proofs.NamedRows.{NamesRows, rows_named}
use Rattle.client_core.specs.Replies.{are_ascending}
use Rattle.pir_world.specs.Versions.{HasVersion}
use Rattle.pir_world.proofs.Later.{records_at}

-- numbers picked from a range ascend
picked_ascend : (f : ℕ → Bool) (from a n : ℕ) → from ≤ a → are_ascending from (a + n) (filter f (range_with_len a n)) ≡ true
unfolding are_ascending
picked_ascend f from a zero le = refl
picked_ascend f from a (suc n) le = by (λ low below. picked_ascend f low (a + 1) n below) (f a)
  where
    next : (a + 1) + n ≡ a + suc n
    next = omega arith

    by : ((low : ℕ) → low ≤ a + 1 → are_ascending low ((a + 1) + n) (filter f (range_with_len (a + 1) n)) ≡ true) → (b : Bool) →
        are_ascending from (a + suc n) (cond b (a ∷ filter f (range_with_len (a + 1) n)) (filter f (range_with_len (a + 1) n))) ≡ true
    by later true = and_from (nat_le from a && nat_lt a (a + suc n)) _ (and_from (nat_le from a) _ (le-leb from a le) (lt-ltb a (a + suc n) (omega arith)))
        (ap (λ (l : ℕ). are_ascending (a + 1) l (filter f (range_with_len (a + 1) n))) (sym next) ∙ later (a + 1) (omega arith))
    by later false = ap (λ (l : ℕ). are_ascending from l (filter f (range_with_len (a + 1) n))) (sym next) ∙ later from (omega arith)

picked_below : (f : ℕ → Bool) (n : ℕ) → are_ascending 0 n (filter f (range_with_len 0 n)) ≡ true
picked_below f n =
    let all : 0 + n ≡ n = omega arith in
    ap (λ (l : ℕ). are_ascending 0 l (filter f (range_with_len 0 n))) (sym all) ∙ picked_ascend f 0 0 n (omega arith)

-- the rows ascend, and each other row of the hints is the same
pub record CoversChanges (p : Plan) (before current : List (List ℕ)) (rows : List ℕ) : Type 0 where
  pub ascending : are_ascending 0 (digit_rows (shape_at p (length current))) rows ≡ true
  pub named : (r : ℕ) → r < digit_rows (shape_at p (length current)) →
      Contains rows r ⊎ (row (hint_matrix Simple p before) r ≡ row (hint_matrix Simple p current) r)

union_has : (n : ℕ) (lists : List (List ℕ)) (r : ℕ) → r < n → is_in (joined lists) r ≡ true → Contains (union_below n lists) r
union_has n lists r lt within =
    let inside : is_in (range_with_len 0 n) r ≡ true = in_range 0 n r (omega arith) (omega arith) in
    Contains-from_any eqb-true r (union_below n lists)
    (in_filter (λ r. is_in (joined lists) r) (range_with_len 0 n) r ∙ ap (λ (b : Bool). b && is_in (range_with_len 0 n) r) within ∙ inside)

covers : (p : Plan) (h : History) (before : List (List ℕ)) (rows : List ℕ) → NamesRows p h before rows →
    CoversChanges p before h.current rows
covers p h before rows n =
    rw n.rows_are (record {
      ascending = picked_below (λ r. is_in (joined n.lists) r) (digit_rows (shape_at p (length h.current)));
      named = λ r lt. elim (cases_Bool (is_in (joined n.lists) r)) [
        | inl within ↦ inl (union_has (digit_rows (shape_at p (length h.current))) n.lists r lt within)
        | inr out ↦ inr (n.same r lt out)
      ];
    })

-- the rows that a history names since a version
pub rows_cover : (p : Plan) (h : History) (since : ℕ) (before : List (List ℕ)) (rows : List ℕ) → HasVersion h since before →
    delta_rows p h since ≡ Some rows → CoversChanges p before h.current rows
rows_cover p h since before rows v e =
    covers p h before rows (rows_named p h since before rows (sym (records_at h since v.0) ∙ v.1) e)
