-- What publications changed, by the bytes that records had before.
use Rattle.std.specs.Prelude.{◌≡◌, ◌<◌, ◌*◌, ◌++◌, ◌≢◌, ℕ, All, Bool, Option, Some, None, List, [], ◌∷◌, length, map, take, drop, if◌then◌else◌, nat_eq, nat_le, slice_index, slice_set}
use Rattle.std.specs.List.{flat_map, list_any}
use Rattle.std.specs.List.Sorted.{IsStrictlyIncreasing}
use Rattle.byteorder.specs.Endian.{little_bytes}
use Rattle.matrix_u32.specs.Sum.{list_of}
use Rattle.digit_pack.specs.Layout.{record_at}
use Rattle.hint_changes.specs.Changes.{ChangedRecord}

-- a record that a publication changed: its number, and the bytes that it had before
pub record OldRecord : Type 0 where
  pub index : ℕ
  pub bytes : List ℕ

-- the old bytes of all records of one length that a publication changed
pub record OldBytes : Type 0 where
  pub record_len : ℕ
  pub records : List OldRecord

-- the old records whose numbers and bytes come one after another
abbrev pub olds_in : ℕ → List ℕ → List ℕ → List OldRecord
olds_in len numbers bytes =
    list_of (length numbers) (λ k. record { index = slice_index numbers k; bytes = take len (drop (k * len) bytes) })

-- the numbers of old records
abbrev pub numbers_of : List OldRecord → List ℕ
numbers_of olds = map (λ (old : OldRecord). old.index) olds

-- each has a greater number than the one before
abbrev pub AreAscending : List OldRecord → Type 0
AreAscending olds = IsStrictlyIncreasing (numbers_of olds)

-- whether record i is one of those listed
abbrev pub has_old : List OldRecord → ℕ → Bool
has_old olds i = list_any (λ (old : OldRecord). nat_eq old.index i) olds

-- the old bytes of record i; none if it isn't listed
abbrev pub old_bytes_in : List OldRecord → ℕ → List ℕ
old_bytes_in [] i = []
old_bytes_in (old ∷ more) i = if nat_eq old.index i then old.bytes else old_bytes_in more i

-- the first number that is listed from one on
abbrev pub first_from : List OldRecord → ℕ → Option ℕ
first_from [] least = None
first_from (old ∷ more) least = if nat_le least old.index then Some old.index else first_from more least

-- records with the old bytes of those that are listed
abbrev pub undone : List OldRecord → List (List ℕ) → List (List ℕ)
undone [] records = records
undone (old ∷ more) records = slice_set (undone more records) old.index old.bytes

-- a list has all that changed from some records to others that are as many, with the old bytes
pub record AreOldOf (before after : List (List ℕ)) (olds : List OldRecord) : Type 0 where
  pub count : length before ≡ length after
  pub each : All (λ (old : OldRecord). (old.index < length after) × (record_at before old.index ≡ old.bytes)) olds
  pub others : (i : ℕ) → All (λ (old : OldRecord). old.index ≢ i) olds → record_at after i ≡ record_at before i

-- a change as bytes: the record's number in four, the old bytes, and the new ones
abbrev pub entry_bytes : ChangedRecord → List ℕ
entry_bytes c = little_bytes 4 c.index ++ (c.old ++ c.new)

-- changes as bytes, one after another
abbrev pub entries_bytes : List ChangedRecord → List ℕ
entries_bytes changes = flat_map entry_bytes changes
