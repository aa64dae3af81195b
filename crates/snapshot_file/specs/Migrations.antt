-- Records of one length, moved into slots.
use Rattle.std.specs.Prelude.{◌≡◌, ◌⊎◌, ℕ, ◌+◌, List, length, map}
use Rattle.digit_pack.specs.Layout.{IsLayout, records_in}
use Rattle.digit_pack.specs.Slots.{slot_of}
use Rattle.snapshot_file.specs.declared.migration.MigrateError.{MigrateError}
use Rattle.snapshot_file.specs.declared.migration.MigrateError.TheVariants.{NotFormOne, TooWide, Memory}
use Rattle.snapshot_file.specs.declared.snapshot.Header.{Header}
use Rattle.snapshot_file.specs.declared.snapshot.Snapshot.{Snapshot}
use Rattle.snapshot_file.specs.Snapshots.{header_of, shape_of, records_len}

-- the forms in which all records have one length
abbrev pub IsPlainForm : ℕ → Type 0
IsPlainForm form = (form ≡ 1) ⊎ (form ≡ 129)

-- the fields of the same records in slots: the next form, and two bytes more for each
abbrev pub in_slots : Header → Header
in_slots h = record h { form = h.form + 1; record_len = h.record_len + 2 }

-- bytes in which each record has its slot
pub record AreInSlots (h : Header) (records moved : List ℕ) : Type 0 where
  pub len : length moved ≡ records_len (in_slots h)
  pub each : records_in (shape_of (in_slots h)) moved ≡ map (slot_of (h.record_len + 2)) (records_in (shape_of h) records)

-- a snapshot that records of one length were moved into: the layout of their slots is accepted, and
-- each record has its own
pub record IsMoved (h : Header) (records : List ℕ) (moved : Snapshot) : Type 0 where
  pub form : IsPlainForm h.form
  pub layout : IsLayout (shape_of (in_slots h))
  pub header : header_of moved ≡ in_slots h
  pub slots : AreInSlots h records moved.records.items

-- the first cause that applies
abbrev pub IsMigrateFault : Header → MigrateError → Type 0
IsMigrateFault h NotFormOne = ¬ IsPlainForm h.form
IsMigrateFault h TooWide = IsPlainForm h.form × ¬ IsLayout (shape_of (in_slots h))
IsMigrateFault h Memory = IsPlainForm h.form × IsLayout (shape_of (in_slots h))
