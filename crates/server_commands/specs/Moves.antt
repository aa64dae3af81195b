-- Snapshots whose records were moved into slots, or into a wide store.
use Rattle.std.specs.Prelude.{◌≡◌, ℕ, List}
use Rattle.pir_schemes.specs.Plans.{records_held}
use Rattle.snapshot_file.specs.declared.snapshot.Snapshot.{Snapshot}
use Rattle.snapshot_file.specs.Migrations.{IsPlainForm, in_slots}
use Rattle.snapshot_file.specs.Widenings.{IsOrdinaryForm, in_wide}
use Rattle.snapshot_file.specs.Snapshots.{header_of}
use Rattle.version_store.specs.Openings.{IsSound, plan_held}

-- a snapshot that a store is opened with, whose fields are those of one of one length in slots, and
-- which has the same records
pub record HasRecordsOf (file moved : Snapshot) : Type 0 where
  pub whole : IsSound (header_of file) file.records.items
  pub form : IsPlainForm file.form
  pub header : header_of moved ≡ in_slots (header_of file)
  pub sound : IsSound (header_of moved) moved.records.items
  pub same : records_held (plan_held (header_of moved)) moved.count moved.records.items
      ≡ records_held (plan_held (header_of file)) file.count file.records.items

-- a snapshot that a store is opened with, whose fields are those of an ordinary one in a wide store
-- of this seed, and which has the same records
pub record IsWideOf (file : Snapshot) (seed : List ℕ) (wide : Snapshot) : Type 0 where
  pub whole : IsSound (header_of file) file.records.items
  pub form : IsOrdinaryForm file.form
  pub header : header_of wide ≡ in_wide (header_of file) seed
  pub sound : IsSound (header_of wide) wide.records.items
  pub same : records_held (plan_held (header_of wide)) wide.count wide.records.items
      ≡ records_held (plan_held (header_of file)) file.count file.records.items
