-- The steps in which a log says what changed.
use Rattle.std.specs.Prelude.{◌≡◌, ◌≤◌, ◌<◌, ◌++◌, ℕ, All, Bool, true, false, Option, Some, None, List, [], length, map, min, nat_eq, if◌then◌else◌}
use Rattle.std.specs.Cmp.Lexicographic.{pointwise}
use Rattle.hint_changes.specs.Changes.{ChangedRecord, unless_same}
use Rattle.record_log.specs.OldRecords.{OldBytes, OldRecord, entries_bytes}
use Rattle.record_log.specs.Logs.{are_within, is_listed, kept_within, nth_bytes, oldest_bytes}

-- what some publications changed, without the length of a record
abbrev pub olds_of : List OldBytes → List (List OldRecord)
olds_of lists = map (λ (o : OldBytes). o.records) lists

-- all have records of so many bytes
abbrev pub HaveLen : ℕ → List OldBytes → Type 0
HaveLen len lists = All (λ (o : OldBytes). o.record_len ≡ len) lists

-- the lists that are left when the oldest went
pub record AreKept (len most : ℕ) (old new : List OldBytes) : Type 0 where
  pub lists : olds_of new ≡ kept_within len most (olds_of old)
  pub within : are_within len most (olds_of new) ≡ true
  pub each : HaveLen len new

-- the lesser of two numbers, if there are any
abbrev pub lesser : Option ℕ → Option ℕ → Option ℕ
lesser None b = b
lesser (Some x) None = Some x
lesser (Some x) (Some y) = Some (min x y)

-- the least number from one on that is listed, if there is one
abbrev pub IsNext : List (List OldRecord) → ℕ → Option ℕ → Type 0
IsNext lists least None = (i : ℕ) → least ≤ i → is_listed lists i ≡ false
IsNext lists least (Some n) =
    (least ≤ n) × (is_listed lists n ≡ true) × ((i : ℕ) → least ≤ i → i < n → is_listed lists i ≡ false)

-- the change of one record; none if its bytes are the same
abbrev pub change_or_none : ℕ → List ℕ → List ℕ → List ChangedRecord
change_or_none i old new = unless_same (pointwise nat_eq old new) (record { index = i; old = old; new = new }) []

-- the entry of record n, if it differs from what it was before some publications
abbrev pub next_entry : List (List OldRecord) → ℕ → List ℕ → ℕ → List ℕ
next_entry lists len bytes n =
    let new = nth_bytes len bytes n in
    entries_bytes (change_or_none n (if is_listed lists n then oldest_bytes lists n else new) new)

-- bytes were added to others, and all of them are so many at most; or they would be more
abbrev pub AddsWithin : ℕ → List ℕ → List ℕ → List ℕ → Bool → Type 0
AddsWithin most old new added true = (new ≡ old ++ added) × (length new ≤ most)
AddsWithin most old new added false = most < length (old ++ added)
