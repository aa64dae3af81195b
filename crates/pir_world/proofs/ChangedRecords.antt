-- What Changes say of two versions: a client accepts their entries, which move the hint of the one
-- to that of the other.
use Rattle.std.proofs.Common.{◌≡◌, ℕ, zero, suc, ◌+◌, ◌-◌, ◌*◌, ◌%◌, ◌^◌, ◌<◌, ◌≤◌, Bool, true, false, All, List, [], length, replicate, refl, ap, ◌∙◌, arith}
use Rattle.std.specs.Prelude.{if◌then◌else◌, map, nat_eq, nat_le, nat_lt, ◌&&◌, ◌==◌}
use Rattle.std.specs.List.{list_all, range_with_len}
use Rattle.std.specs.Cmp.Lexicographic.{pointwise}
use Rattle.std.proofs.lemmas.Bool.{and_from, eq-eqb, le-leb, lt-ltb}
use Rattle.std.proofs.lemmas.List.{length-map, get_or-map}
use Rattle.std.proofs.lemmas.List.Elements.{All-append, All-replicate}
use Rattle.std.proofs.lemmas.List.Sums.{list_all-from_AllPass}
use Rattle.std.proofs.lemmas.Nat.{mod-mul-add}
use Rattle.digit_pack.specs.Layout.{record_at}
use Rattle.digit_pack.specs.Slots.{is_slotted}
use Rattle.hint_changes.specs.Changes.{ChangedRecord, change_of, changes_at, changes_between, unless_same}
use Rattle.hint_changes.specs.Entries.{changes_in, entry_len}
use Rattle.pir_schemes.specs.declared.plan.Plan.{Plan}
use Rattle.pir_schemes.specs.Plans.{IsPlan, IsRecordOf, is_slot_of, shape_at, slot, slots}
use Rattle.pir_schemes.proofs.Quiet.{slot_holds}
use Rattle.record_log.specs.OldRecords.{entries_bytes}
use Rattle.record_log.proofs.EntryBytes.{IsChangeOf, entries_say_the_changes, length-entries}
use Rattle.version_store.specs.Editions.{blank, grown}
use Rattle.version_store.specs.OldRecords.{slots_with_blanks}
use Rattle.version_store.proofs.ChangesMove.{as_many, blanks_long, slots_long}
use Rattle.version_store.proofs.ChangesSince.{few_records}
use Rattle.version_store.proofs.Grown.{blank-fits, length-grown}
use Rattle.client_core.specs.Replies.{are_ascending, are_entries, have_slots}

-- ---- changes one by one

-- what is so of a change and of those after it, if it is left out or not
unless_each : (P : ChangedRecord → Type 0) (b : Bool) (c : ChangedRecord) (more : List ChangedRecord) → P c → All P more → All P (unless_same b c more)
unless_each P true c more one all k d h = all k d h
unless_each P false c more one all zero d h = one
unless_each P false c more one all (suc k) d h = all k d (omega (arith, h))

-- what is so of the change of each record is so of all changes
changes_each : (P : ChangedRecord → Type 0) (before after : List (List ℕ)) (a n : ℕ) →
    ((i : ℕ) → a ≤ i → i < a + n → P (change_of before after i)) → All P (changes_at before after (range_with_len a n))
changes_each P before after a zero each = λ k d h. absurd (omega (arith, h))
changes_each P before after a (suc n) each =
    unless_each P (pointwise nat_eq (record_at before a) (record_at after a)) (change_of before after a)
    (changes_at before after (range_with_len (a + 1) n)) (each a (omega arith) (omega arith))
    (changes_each P before after (a + 1) n (λ i le lt. each i (omega (arith, le)) (omega (arith, lt))))

-- the numbers of changed records
numbers : List ChangedRecord → List ℕ
numbers changes = map (λ (c : ChangedRecord). c.index) changes

-- these ascend
they_ascend : (before after : List (List ℕ)) (from a n limit : ℕ) → from ≤ a → a + n ≤ limit →
    are_ascending from limit (numbers (changes_at before after (range_with_len a n))) ≡ true
unfolding are_ascending numbers
they_ascend before after from a zero limit le room = refl
they_ascend before after from a (suc n) limit le room =
    by (pointwise nat_eq (record_at before a) (record_at after a)) (λ low below. they_ascend before after low (a + 1) n limit below (omega (arith, room)))
  where
    by : (b : Bool) →
        ((low : ℕ) → low ≤ a + 1 → are_ascending low limit (numbers (changes_at before after (range_with_len (a + 1) n))) ≡ true) →
        are_ascending from limit (numbers (unless_same b (change_of before after a) (changes_at before after (range_with_len (a + 1) n)))) ≡ true
    by true later = later from (omega (arith, le))
    by false later =
        and_from (nat_le from a && nat_lt a limit) _ (and_from (nat_le from a) _ (le-leb from a le) (lt-ltb a limit (omega (arith, room))))
        (later (a + 1) (omega arith))

-- ---- of two versions

module _ (p : Plan) (before after : List (List ℕ)) (ok : IsPlan p (length after)) (new : All (IsRecordOf p) after) (old : All (IsRecordOf p) before)
    (le : length before ≤ length after) where
  abbrev was : List (List ℕ)
  was = slots_with_blanks p (length after) before

  abbrev is : List (List ℕ)
  is = slots p after

  abbrev changes : List ChangedRecord
  changes = changes_between was is

  abbrev entries : List ℕ
  entries = entries_bytes changes

  many_was : length was ≡ length after
  many_was = as_many p before after le ∙ length-map after (slot p)

  many_is : length is ≡ length after
  many_is = length-map after (slot p)

  all_fit : All (IsChangeOf p.record_len) changes
  all_fit = changes_each (IsChangeOf p.record_len) was is 0 (length is) (λ i low lt. (
    omega (arith, lt, many_is, few_records (shape_at p (length after)) ok.layout),
    blanks_long p (length after) (length after) before ok old i [] (omega (arith, lt, many_is, many_was)),
    slots_long p (length after) after ok new i [] (omega (arith, lt)),
  ))

  say : changes_in p.record_len entries ≡ changes
  say = entries_say_the_changes p.record_len changes all_fit

  -- records with blanks after them can be records
  grown_fit : All (IsRecordOf p) (grown p (length after) before)
  grown_fit =
      All-append (IsRecordOf p) before (replicate (length after - length before) (blank p)) old
      (All-replicate (IsRecordOf p) (length after - length before) (blank p) blank_fits)
    where
      zeros : (b : Bool) → All (λ z. z < 2 ^ 8) (if b then [] else replicate p.record_len 0)
      zeros true = λ k d h. absurd (omega (arith, h))
      zeros false = All-replicate (λ z. z < 2 ^ 8) p.record_len 0 (omega arith)

      blank_fits : IsRecordOf p (blank p)
      blank_fits = record { fits = blank-fits p ok.form; each = zeros (is_slotted p.form) }

  slot_good : (records : List (List ℕ)) → All (IsRecordOf p) records → (i : ℕ) → i < length records →
      is_slot_of p (record_at (slots p records) i) ≡ true
  slot_good records each i lt =
      ap (is_slot_of p) (get_or-map (slot p) records i [] [] lt) ∙ (slot_holds p (length after) (record_at records i) ok (each i [] lt).fits).0

  pub entries_good : are_entries (shape_at p (length after)) entries ≡ true
  unfolding are_entries numbers
  entries_good =
      let size : length entries % entry_len p.record_len ≡ 0 =
      ap (λ (n : ℕ). n % entry_len p.record_len) (length-entries p.record_len changes all_fit ∙ more)
      ∙ mod-mul-add (length changes) (entry_len p.record_len) 0 (omega arith) in
      and_from (length entries % entry_len p.record_len == 0) _ (eq-eqb (length entries % entry_len p.record_len) 0 size)
      (ap (λ (cs : List ChangedRecord). are_ascending 0 (length after) (map (λ (c : ChangedRecord). c.index) cs)) say
      ∙ they_ascend was is 0 0 (length is) (length after) (omega arith) (omega (arith, many_is)))
    where
      more : length changes * entry_len p.record_len ≡ length changes * entry_len p.record_len + 0
      more = omega arith

  pub slots_good : have_slots p entries ≡ true
  unfolding have_slots
  slots_good =
      let Good : ChangedRecord → Bool = λ c. is_slot_of p c.old && is_slot_of p c.new in
      ap (list_all Good) say
      ∙ list_all-from_AllPass Good changes (changes_each (λ c. Good c ≡ true) was is 0 (length is) (λ i low lt.
      and_from _ _ (slot_good (grown p (length after) before) grown_fit i (omega (arith, lt, many_is, length-grown p (length after) before le)))
      (slot_good after new i (omega (arith, lt, many_is)))))
