-- Changes by ascending place, and one more among them.
use Rattle.std.proofs.Common.{◌≡◌, ◌<◌, ◌≤◌, ℕ, ◌+◌, arith, ap, ◌∙◌, sym, refl, subst, inl, inr, List, [], ◌∷◌, ◌++◌, length, Bool, true, false, cond}
use Rattle.std.specs.Prelude.{nat_lt, ◌==◌, slice_set}
use Rattle.std.proofs.lemmas.Bool.{cases_lt, lt-ltb, le-ltb, ltb-true, ltb-false, eqb-true, eqb-false, cond-true, cond-false}
use Rattle.std.proofs.lemmas.List.{length-set, length-append, set-set, set_comm, set-append_left}
use Rattle.std.proofs.Math.Seq.{set-append_seam}
use Rattle.publication_log.specs.Publications.{Placed}
use Rattle.log_replay.specs.Replays.{record_changed, records_replayed, count_after}
use Rattle.publisher_drafts.specs.Merging.{merged_change}
use Rattle.log_replay.proofs.ChangeLemmas.{length_changed}

-- each change has a place above those before it, the first at least this one
abbrev pub Ascend : ℕ → List Placed → Type 0
Ascend low [] = Unit {0}
Ascend low (c ∷ cs) = (low ≤ c.place) × Ascend (c.place + 1) cs

pub ascend_from : (low other : ℕ) (cs : List Placed) → other ≤ low → Ascend low cs → Ascend other cs
ascend_from low other [] below each = tt
ascend_from low other (c ∷ cs) below each = (omega (arith, each.0), each.1)

above_from : (m n : ℕ) → n ≤ m → (m ≡ n → ⊥) → n + 1 ≤ m
above_from m n le apart = elim (cases_lt n m) [
  | inl lt ↦ omega (arith, lt)
  | inr ge ↦ absurd (apart (omega arith))
]

-- one more keeps them ascending
pub ascend_with : (low : ℕ) (c : Placed) (cs : List Placed) → low ≤ c.place → Ascend low cs → Ascend low (merged_change c cs)
ascend_with low c [] at each = (at, tt)
ascend_with low c (d ∷ ds) at each = by_order (nat_lt c.place d.place) refl (c.place == d.place) refl (λ above. ascend_with (d.place + 1) c ds above each.1)
  where
    by_order : (b : Bool) → nat_lt c.place d.place ≡ b → (e : Bool) → (c.place == d.place) ≡ e →
        (d.place + 1 ≤ c.place → Ascend (d.place + 1) (merged_change c ds)) → Ascend low (cond b (c ∷ d ∷ ds) (cond e (c ∷ ds) (d ∷ merged_change c ds)))
    by_order true lt e eq rest = (at, (omega (arith, ltb-true c.place d.place lt), each.1))
    by_order false lt true eq rest = (at, subst (λ (n : ℕ). Ascend (n + 1) ds) (sym (eqb-true c.place d.place eq)) each.1)
    by_order false lt false eq rest = (each.0, rest (above_from c.place d.place (ltb-false c.place d.place lt) (eqb-false c.place d.place eq)))

-- ---- records

-- there are no fewer records after changes
pub grows : (records : List (List ℕ)) (c : Placed) → length records ≤ length (record_changed records c)
grows records c = by_place (nat_lt c.place (length records))
  where
    by_place : (b : Bool) → length records ≤ length (cond b (slice_set records c.place c.bytes) (records ++ c.bytes ∷ []))
    by_place true = omega (arith, length-set records c.place c.bytes)
    by_place false = omega (arith, length-append records (c.bytes ∷ []))

pub all_grow : (records : List (List ℕ)) (cs : List Placed) → length records ≤ length (records_replayed records cs)
all_grow records [] = omega arith
all_grow records (c ∷ cs) = omega (arith, grows records c, all_grow (record_changed records c) cs)

-- an edit, as a change
pub edit_is : (records : List (List ℕ)) (c : Placed) → c.place < length records → record_changed records c ≡ slice_set records c.place c.bytes
edit_is records c inside = cond-true (nat_lt c.place (length records)) (slice_set records c.place c.bytes) (records ++ c.bytes ∷ []) (lt-ltb c.place (length records) inside)

pub append_is : (records : List (List ℕ)) (c : Placed) → length records ≤ c.place → record_changed records c ≡ records ++ c.bytes ∷ []
append_is records c past = cond-false (nat_lt c.place (length records)) (slice_set records c.place c.bytes) (records ++ c.bytes ∷ []) (le-ltb c.place (length records) past)

-- an edit before a change of a higher place can be made after it
edit_later_one : (records : List (List ℕ)) (i : ℕ) (bytes : List ℕ) (d : Placed) → i < length records → i < d.place →
    record_changed (slice_set records i bytes) d ≡ slice_set (record_changed records d) i bytes
edit_later_one records i bytes d inside above =
    let len : length (slice_set records i bytes) ≡ length records = length-set records i bytes in
    let apart : i ≡ d.place → ⊥ = λ e. absurd (omega arith) in
    elim (cases_lt d.place (length records)) [
      | inl in_place ↦ edit_is (slice_set records i bytes) d (omega (arith, len))
          ∙ set_comm records i d.place bytes d.bytes apart
          ∙ ap (λ (rs : List (List ℕ)). slice_set rs i bytes) (sym (edit_is records d in_place))
      | inr past ↦ append_is (slice_set records i bytes) d (omega (arith, len))
          ∙ sym (set-append_left records (d.bytes ∷ []) i bytes inside)
          ∙ ap (λ (rs : List (List ℕ)). slice_set rs i bytes) (sym (append_is records d past))
    ]

pub edit_later : (records : List (List ℕ)) (i : ℕ) (bytes : List ℕ) (ds : List Placed) → i < length records → Ascend (i + 1) ds →
    records_replayed (slice_set records i bytes) ds ≡ slice_set (records_replayed records ds) i bytes
edit_later records i bytes [] inside each = refl
edit_later records i bytes (d ∷ ds) inside each =
    let above : i < d.place = omega (arith, each.0) in
    ap (λ (rs : List (List ℕ)). records_replayed rs ds) (edit_later_one records i bytes d inside above)
    ∙ edit_later (record_changed records d) i bytes ds (omega (arith, grows records d)) (ascend_from (d.place + 1) (i + 1) ds (omega arith) each.1)

-- an edit before other changes, as a change after them
pub edit_moved : (records : List (List ℕ)) (c : Placed) (ds : List Placed) → c.place < length records → Ascend (c.place + 1) ds →
    records_replayed (slice_set records c.place c.bytes) ds ≡ record_changed (records_replayed records ds) c
edit_moved records c ds inside each =
    edit_later records c.place c.bytes ds inside each
    ∙ sym (edit_is (records_replayed records ds) c (omega (arith, all_grow records ds)))

-- a change in place of the one at its place
same_place : (records : List (List ℕ)) (c d : Placed) → c.place ≡ d.place → d.place ≤ length records →
    record_changed records c ≡ slice_set (record_changed records d) c.place c.bytes
same_place records c d at few = elim (cases_lt d.place (length records)) [
  | inl inside ↦ edit_is records c (omega arith) ∙ sym (set-set records c.place d.bytes c.bytes)
      ∙ ap (λ (n : ℕ). slice_set (slice_set records n d.bytes) c.place c.bytes) at
      ∙ ap (λ (rs : List (List ℕ)). slice_set rs c.place c.bytes) (sym (edit_is records d inside))
  | inr past ↦
      let last : length records ≡ c.place = omega arith in
      append_is records c (omega arith)
      ∙ sym (set-append_seam records d.bytes [] c.bytes)
      ∙ ap (λ (n : ℕ). slice_set (records ++ d.bytes ∷ []) n c.bytes) last
      ∙ ap (λ (rs : List (List ℕ)). slice_set rs c.place c.bytes) (sym (append_is records d past))
]

pub moved_same : (records : List (List ℕ)) (c d : Placed) (ds : List Placed) → c.place ≡ d.place → d.place ≤ length records → Ascend (d.place + 1) ds →
    records_replayed (record_changed records c) ds ≡ record_changed (records_replayed (record_changed records d) ds) c
moved_same records c d ds at few each =
    let inside : c.place < length (record_changed records d) = elim (cases_lt d.place (length records)) [
      | inl within ↦ omega (arith, grows records d)
      | inr past ↦ omega (arith, ap (λ (rs : List (List ℕ)). length rs) (append_is records d past), length-append records (d.bytes ∷ []))
    ] in
    ap (λ (rs : List (List ℕ)). records_replayed rs ds) (same_place records c d at few)
    ∙ edit_moved (record_changed records d) c ds inside (subst (λ (n : ℕ). Ascend (n + 1) ds) (sym at) each)
