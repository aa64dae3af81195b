-- The draft: the records of the current version with the changes that no publication has taken yet.
use Rattle.std.specs.Prelude.{◌≡◌, ℕ, ◌<◌, ◌≤◌, All, List, [], ◌∷◌, length, Bool, true, false, Option, Some, None, MatchOption}
use Rattle.std.specs.declared.vec.Vec.{Vec}
use Rattle.std.specs.declared.alloc.Global.{Global}
use Rattle.std.specs.Map.{lookup}
use Rattle.std.specs.BTreeMap.{is_at}
use Rattle.std.specs.Ordering.{nat_cmp}
use Rattle.matrix_u32.specs.Sum.{list_of}
use Rattle.digit_pack.specs.Layout.{IsLayout, record_at, digit_rows}
use Rattle.pir_schemes.specs.Plans.{fits, shape_at}
use Rattle.version_store.specs.Editions.{Records, version_shape, grown}

-- changed records by their indices
abbrev pub Changes : Type 0
Changes = List (ℕ × Vec ℕ Global)

-- the changed record at an index, if there is one
abbrev pub change_at : Changes → ℕ → Option (Vec ℕ Global)
change_at changes i = lookup (is_at (nat_cmp i)) changes

-- the bytes of a change, and others if there is none
abbrev pub bytes_or : Option (Vec ℕ Global) → List ℕ → List ℕ
bytes_or None bytes = bytes
bytes_or (Some v) bytes = v.items

-- the records, each changed one with its new bytes
abbrev pub draft_of : List (List ℕ) → Changes → List (List ℕ)
draft_of records changes = list_of (length records) (λ i. bytes_or (change_at changes i) (record_at records i))

-- every change is of a record of the version, and its bytes can be a record
abbrev pub FitRecords : Records → Changes → Type 0
FitRecords e changes =
    (i : ℕ) → MatchOption (change_at changes i) (Unit {0}) (λ v. (i < length e.records) × (fits e.plan v.items ≡ true))

-- whether there is a change
abbrev pub is_some_change : Changes → Bool
is_some_change [] = false
is_some_change (c ∷ cs) = true

-- a version with blanks after its records, so many in all
abbrev pub grown_to : ℕ → Records → Records
grown_to count e = record e { records = grown e.plan count e.records }

-- every record after those of the version has a change
abbrev pub HasAppended : Records → ℕ → Changes → Type 0
HasAppended e count changes = (i : ℕ) → length e.records ≤ i → i < count → change_at changes i ≡ None → ⊥

-- the draft has as many records as the version or more, within every limit; the changes fit them,
-- each record after those of the version has one, and only rows that there are were logged
pub record IsHeld (e : Records) (count : ℕ) (changes : Changes) (log : List (List ℕ)) : Type 0 where
  pub more : length e.records ≤ count
  pub layout : IsLayout (shape_at e.plan count)
  pub fit : FitRecords (grown_to count e) changes
  pub appended : HasAppended e count changes
  pub rows : All (λ (rows : List ℕ). All (λ r. r < digit_rows (version_shape e)) rows) log
