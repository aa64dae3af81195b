-- Changes that are read, and what they make of records and of a store.
use Rattle.std.proofs.Common.{◌≡◌, ℕ, ◌+◌, arith, ap, ◌∙◌, sym, refl, List, [], ◌∷◌, ◌++◌, length, Bool, true, false, cond}
use Rattle.std.specs.Prelude.{nat_lt, ◌==◌, ◌&&◌, slice_set}
use Rattle.std.proofs.lemmas.Bool.{eq-eqb, ne_eqb, lt-ltb}
use Rattle.std.proofs.lemmas.List.{length-set, length-append}
use Rattle.pir_schemes.specs.declared.plan.Plan.{Plan}
use Rattle.pir_schemes.specs.Plans.{fits}
use Rattle.publication_log.specs.Publications.{Placed, Published, changes_bytes, IsPlaced, AreChanges}
use Rattle.version_store.specs.Histories.{StoreState, StoreChange, Edited, Appended, held_edited, held_appended, held_after}
use Rattle.log_replay.specs.Replays.{record_changed, count_after, has_place, are_changes_of, edit_or_append, edits_and_appends, is_replayable}

-- ---- changes that are read one after another

-- bytes that are those of changes by ascending place
pub record HasChanges (bytes : List ℕ) (cs : List Placed) : Type 0 where
  pub low : ℕ
  pub each : AreChanges low cs
  pub bytes_are : bytes ≡ changes_bytes cs

-- the first of the changes that bytes have, and the others
pub record Splits (cs : List Placed) (place : ℕ) (bytes rest : List ℕ) : Type 0 where
  pub others : List Placed
  pub all : cs ≡ record { place = place; bytes = bytes } ∷ others
  pub others_are : HasChanges rest others

-- a change by its place and its bytes
abbrev placed : ℕ → List ℕ → Placed
placed place bytes = record { place = place; bytes = bytes }

-- a change was read of bytes that have some changes
pub splits : (bytes : List ℕ) (cs : List Placed) (place : ℕ) (first rest : List ℕ) → HasChanges bytes cs →
    ((c : Placed) (others : List Placed) → IsPlaced c → bytes ≡ changes_bytes (c ∷ others) → (place ≡ c.place) × (first ≡ c.bytes) × (rest ≡ changes_bytes others)) →
    (bytes ≡ [] → ⊥) → Splits cs place first rest
splits bytes [] place first rest has some none = absurd (none has.bytes_are)
splits bytes (c ∷ cs) place first rest has some none =
    let found = some c cs has.each.0 has.bytes_are in
    record {
      others = cs;
      all = ap (λ (x : Placed). x ∷ cs) (sym (ap (λ (n : ℕ). placed n first) found.0 ∙ ap (placed c.place) found.1));
      others_are = record { low = c.place + 1; each = has.each.2; bytes_are = found.2 };
    }

-- no change is left
pub none_left : (bytes : List ℕ) (cs : List Placed) → HasChanges bytes cs → ((c : Placed) (others : List Placed) → IsPlaced c → bytes ≡ changes_bytes (c ∷ others) → ⊥) → cs ≡ []
none_left bytes [] has none = refl
none_left bytes (c ∷ cs) has none = absurd (none c cs has.each.0 has.bytes_are)

-- ---- counts

pub length_changed : (records : List (List ℕ)) (c : Placed) → length (record_changed records c) ≡ count_after (length records) c
length_changed records c = by_place (nat_lt c.place (length records))
  where
    by_place : (b : Bool) → length (cond b (slice_set records c.place c.bytes) (records ++ c.bytes ∷ [])) ≡ cond b (length records) (length records + 1)
    by_place true = length-set records c.place c.bytes
    by_place false = length-append records (c.bytes ∷ [])

-- ---- a store

-- what a store keeps after a change
unfoldable pub held_change : StoreState → Placed → StoreState
held_change s c = cond (nat_lt c.place (length s.draft)) (held_edited c.place c.bytes s) (held_appended c.bytes s)

pub held_after_change : (s : StoreState) (c : Placed) (more : List StoreChange) → held_after (edit_or_append (length s.draft) c ∷ more) s ≡ held_after more (held_change s c)
unfolding held_change
held_after_change s c more = by_place (nat_lt c.place (length s.draft))
  where
    by_place : (b : Bool) → held_after (cond b (Edited c.place c.bytes) (Appended c.bytes) ∷ more) s ≡ held_after more (cond b (held_edited c.place c.bytes s) (held_appended c.bytes s))
    by_place true = refl
    by_place false = refl

pub draft_changed : (s : StoreState) (c : Placed) → (held_change s c).draft ≡ record_changed s.draft c
unfolding held_change
draft_changed s c = by_place (nat_lt c.place (length s.draft))
  where
    by_place : (b : Bool) → (cond b (held_edited c.place c.bytes s) (held_appended c.bytes s)).draft ≡ cond b (slice_set s.draft c.place c.bytes) (s.draft ++ c.bytes ∷ [])
    by_place true = refl
    by_place false = refl

-- a store after the first of some changes, and then the others
pub held_first : (s : StoreState) (c : Placed) (cs : List Placed) → held_after (edits_and_appends (length s.draft) (c ∷ cs)) s
    ≡ held_after (edits_and_appends (length (held_change s c).draft) cs) (held_change s c)
held_first s c cs =
    let count : length (held_change s c).draft ≡ count_after (length s.draft) c = ap length (draft_changed s c) ∙ length_changed s.draft c in
    held_after_change s c (edits_and_appends (count_after (length s.draft) c) cs)
    ∙ ap (λ (n : ℕ). held_after (edits_and_appends n cs) (held_change s c)) (sym count)

-- ---- whether they follow

-- the first of some changes can be made, and so the others decide
pub first_made : (p : Plan) (count : ℕ) (c : Placed) (cs : List Placed) → true ≡ (has_place p count c.place && fits p c.bytes) →
    are_changes_of p count (c ∷ cs) ≡ are_changes_of p (count_after count c) cs
first_made p count c cs made = ap (λ b. b && are_changes_of p (count_after count c) cs) (sym made)

pub first_refused : (p : Plan) (count : ℕ) (c : Placed) (cs : List Placed) → false ≡ (has_place p count c.place && fits p c.bytes) →
    are_changes_of p count (c ∷ cs) ≡ false
first_refused p count c cs refused = ap (λ b. b && are_changes_of p (count_after count c) cs) (sym refused)

and_false : (a b : Bool) → (a && (false && b)) ≡ false
and_false true b = refl
and_false false b = refl

pub other_version : (plan : Plan) (version count : ℕ) (p : Published) → (p.version ≡ version + 1 → ⊥) → is_replayable plan version count p ≡ false
other_version plan version count p other =
    ap (λ b. b && (nat_lt 0 (length p.changes) && are_changes_of plan count p.changes)) (ne_eqb p.version (version + 1) other)

pub no_change : (plan : Plan) (version count : ℕ) (p : Published) → p.changes ≡ [] → is_replayable plan version count p ≡ false
no_change plan version count p none =
    ap (λ (cs : List Placed). (p.version == (version + 1)) && (nat_lt 0 (length cs) && are_changes_of plan count cs)) none
    ∙ and_false (p.version == (version + 1)) true

some_lt : (cs : List Placed) → (cs ≡ [] → ⊥) → nat_lt 0 (length cs) ≡ true
some_lt [] some = absurd (some refl)
some_lt (c ∷ cs) some = lt-ltb 0 (length (c ∷ cs)) (omega arith)

pub changes_decide : (plan : Plan) (version count : ℕ) (p : Published) → p.version ≡ version + 1 → (p.changes ≡ [] → ⊥) →
    is_replayable plan version count p ≡ are_changes_of plan count p.changes
changes_decide plan version count p next some =
    ap (λ b. b && (nat_lt 0 (length p.changes) && are_changes_of plan count p.changes)) (eq-eqb p.version (version + 1) next)
    ∙ ap (λ b. b && are_changes_of plan count p.changes) (some_lt p.changes some)
