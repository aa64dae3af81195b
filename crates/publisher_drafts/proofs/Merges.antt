-- What merged changes make of records.
use Rattle.std.proofs.Common.{◌≡◌, ◌<◌, ◌≤◌, ℕ, ◌+◌, arith, ap, ◌∙◌, sym, refl, subst, inl, inr, List, [], ◌∷◌, length, Bool, true, false, cond}
use Rattle.std.specs.Prelude.{nat_lt, ◌==◌, ◌&&◌, ◌||◌}
use Rattle.std.proofs.lemmas.Bool.{ltb-true, ltb-false, eqb-true, eqb-false, lt-ltb, and_parts, and_from, or_cases, or_left, cond-true}
use Rattle.digit_pack.specs.Layout.{is_layout}
use Rattle.pir_schemes.specs.declared.plan.Plan.{Plan}
use Rattle.pir_schemes.specs.Plans.{fits, shape_at}
use Rattle.publication_log.specs.Publications.{Placed, Published}
use Rattle.log_replay.specs.Replays.{record_changed, records_replayed, count_after, has_place, are_changes_of}
use Rattle.log_replay.specs.Replays.{count_after_all}
use Rattle.publisher_drafts.specs.Merging.{merged_change, merged, merged_all, are_entries_of, records_after_entries}
use Rattle.log_replay.proofs.ChangeLemmas.{length_changed}
use Rattle.publisher_drafts.proofs.Ascending.{Ascend, ascend_with, edit_is, edit_moved, moved_same, grows, all_grow}

pub length_after : (records : List (List ℕ)) (cs : List Placed) → length (records_replayed records cs) ≡ count_after_all (length records) cs
length_after records [] = refl
length_after records (c ∷ cs) = length_after (record_changed records c) cs ∙ ap (λ (n : ℕ). count_after_all n cs) (length_changed records c)

-- whether a change can be made to records
abbrev pub can_change : Plan → ℕ → Placed → Bool
can_change plan count c = has_place plan count c.place && fits plan c.bytes

-- a place that exists
place_in : (plan : Plan) (count place : ℕ) → has_place plan count place ≡ true → place ≤ count
place_in plan count place has = elim (or_cases (nat_lt place count) ((place == count) && is_layout (shape_at plan (count + 1))) has) [
  | inl lt ↦ omega (arith, ltb-true place count lt)
  | inr next ↦ omega (arith, eqb-true place count (and_parts (place == count) (is_layout (shape_at plan (count + 1))) next).0)
]

inside_has : (plan : Plan) (count place : ℕ) → place < count → has_place plan count place ≡ true
inside_has plan count place lt = or_left (nat_lt place count) ((place == count) && is_layout (shape_at plan (count + 1))) (lt-ltb place count lt)

-- the first of changes that can be made, and the others
first_of : (plan : Plan) (records : List (List ℕ)) (c : Placed) (cs : List Placed) → are_changes_of plan (length records) (c ∷ cs) ≡ true →
    (can_change plan (length records) c ≡ true) × (are_changes_of plan (length (record_changed records c)) cs ≡ true)
first_of plan records c cs all =
    let parts = and_parts (can_change plan (length records) c) (are_changes_of plan (count_after (length records) c) cs) all in
    (parts.0, ap (λ (n : ℕ). are_changes_of plan n cs) (length_changed records c) ∙ parts.1)

made_first : (plan : Plan) (records : List (List ℕ)) (c : Placed) (cs : List Placed) → can_change plan (length records) c ≡ true →
    are_changes_of plan (length (record_changed records c)) cs ≡ true → are_changes_of plan (length records) (c ∷ cs) ≡ true
made_first plan records c cs one others =
    and_from (can_change plan (length records) c) (are_changes_of plan (count_after (length records) c) cs) one
    (ap (λ (n : ℕ). are_changes_of plan n cs) (sym (length_changed records c)) ∙ others)

-- changes that can be made to records, and make these of them
pub record Makes (plan : Plan) (records : List (List ℕ)) (low : ℕ) (cs : List Placed) (after : List (List ℕ)) : Type 0 where
  pub each : Ascend low cs
  pub made : are_changes_of plan (length records) cs ≡ true
  pub are : records_replayed records cs ≡ after

-- one more change
with_one : (plan : Plan) (records : List (List ℕ)) (low : ℕ) (c : Placed) (cs : List Placed) → Ascend low cs → are_changes_of plan (length records) cs ≡ true →
    can_change plan (length (records_replayed records cs)) c ≡ true →
    (are_changes_of plan (length records) (merged_change c cs) ≡ true) × (records_replayed records (merged_change c cs) ≡ record_changed (records_replayed records cs) c)
with_one plan records low c [] each made one = (made_first plan records c [] one refl, refl)
with_one plan records low c (d ∷ ds) each made one =
    by_order (nat_lt c.place d.place) refl (c.place == d.place) refl
    (with_one plan (record_changed records d) (d.place + 1) c ds each.1 (first_of plan records d ds made).1 one)
  where
    first : (can_change plan (length records) d ≡ true) × (are_changes_of plan (length (record_changed records d)) ds ≡ true)
    first = first_of plan records d ds made

    fit : fits plan c.bytes ≡ true
    fit = (and_parts (has_place plan (length (records_replayed records (d ∷ ds))) c.place) (fits plan c.bytes) one).1

    few : d.place ≤ length records
    few = place_in plan (length records) d.place (and_parts (has_place plan (length records) d.place) (fits plan d.bytes) first.0).0

    by_order : (b : Bool) → nat_lt c.place d.place ≡ b → (e : Bool) → (c.place == d.place) ≡ e →
        ((are_changes_of plan (length (record_changed records d)) (merged_change c ds) ≡ true)
        × (records_replayed (record_changed records d) (merged_change c ds) ≡ record_changed (records_replayed (record_changed records d) ds) c)) →
        (are_changes_of plan (length records) (cond b (c ∷ d ∷ ds) (cond e (c ∷ ds) (d ∷ merged_change c ds))) ≡ true)
        × (records_replayed records (cond b (c ∷ d ∷ ds) (cond e (c ∷ ds) (d ∷ merged_change c ds))) ≡ record_changed (records_replayed records (d ∷ ds)) c)
    by_order true lt e eq rest =
        let below : c.place < d.place = ltb-true c.place d.place lt in
        let inside : c.place < length records = omega (arith, few) in
        let has : can_change plan (length records) c ≡ true = and_from (has_place plan (length records) c.place) (fits plan c.bytes) (inside_has plan (length records) c.place inside) fit in
        let stays : length (record_changed records c) ≡ length records = length_changed records c
        ∙ cond-true (nat_lt c.place (length records)) (length records) (length records + 1) (lt-ltb c.place (length records) inside) in (
          made_first plan records c (d ∷ ds) has (ap (λ (n : ℕ). are_changes_of plan n (d ∷ ds)) stays ∙ made),
          ap (λ (rs : List (List ℕ)). records_replayed rs (d ∷ ds)) (edit_is records c inside) ∙ edit_moved records c (d ∷ ds) inside (omega arith, each.1),
        )
    by_order false lt true eq rest =
        let at : c.place ≡ d.place = eqb-true c.place d.place eq in
        let has : can_change plan (length records) c ≡ true = and_from (has_place plan (length records) c.place) (fits plan c.bytes)
        (ap (has_place plan (length records)) at ∙ (and_parts (has_place plan (length records) d.place) (fits plan d.bytes) first.0).0) fit in
        let same : length (record_changed records c) ≡ length (record_changed records d) = length_changed records c
        ∙ ap (λ (n : ℕ). cond (nat_lt n (length records)) (length records) (length records + 1)) at ∙ sym (length_changed records d) in (
          made_first plan records c ds has (ap (λ (n : ℕ). are_changes_of plan n ds) same ∙ first.1),
          moved_same records c d ds at few each.1,
        )
    by_order false lt false eq rest =
        (made_first plan records d (merged_change c ds) first.0 rest.0, rest.1)

pub makes_one : (plan : Plan) (records : List (List ℕ)) (cs : List Placed) (after : List (List ℕ)) (c : Placed) → Makes plan records 0 cs after →
    can_change plan (length after) c ≡ true → Makes plan records 0 (merged_change c cs) (record_changed after c)
makes_one plan records cs after c so one =
    let step = with_one plan records 0 c cs so.each so.made (ap (λ (rs : List (List ℕ)). can_change plan (length rs) c) so.are ∙ one) in
    record {
      each = ascend_with 0 c cs (omega arith) so.each;
      made = step.0;
      are = step.1 ∙ ap (λ (rs : List (List ℕ)). record_changed rs c) so.are;
    }

-- the changes of an entry
pub makes_entry : (plan : Plan) (records : List (List ℕ)) (cs : List Placed) (after : List (List ℕ)) (ds : List Placed) → Makes plan records 0 cs after →
    are_changes_of plan (length after) ds ≡ true → Makes plan records 0 (merged cs ds) (records_replayed after ds)
makes_entry plan records cs after [] so all = so
makes_entry plan records cs after (d ∷ ds) so all =
    let first = first_of plan after d ds all in
    makes_entry plan records (merged_change d cs) (record_changed after d) ds (makes_one plan records cs after d so first.0) first.1

-- the changes of entries
pub makes_entries : (plan : Plan) (records : List (List ℕ)) (cs : List Placed) (after : List (List ℕ)) (ps : List Published) → Makes plan records 0 cs after →
    are_entries_of plan (length after) ps ≡ true → Makes plan records 0 (merged_all cs ps) (records_after_entries after ps)
makes_entries plan records cs after [] so all = so
makes_entries plan records cs after (p ∷ ps) so all =
    let parts = and_parts (are_changes_of plan (length after) p.changes) (are_entries_of plan (count_after_all (length after) p.changes) ps) all in
    makes_entries plan records (merged cs p.changes) (records_replayed after p.changes) ps (makes_entry plan records cs after p.changes so parts.0)
    (ap (λ (n : ℕ). are_entries_of plan n ps) (length_after after p.changes) ∙ parts.1)
