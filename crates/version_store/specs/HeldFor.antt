-- The records of a snapshot that was read, before a store is made of them.
use Rattle.std.specs.Prelude.{◌≡◌}
use Rattle.digit_pack.specs.Layout.{is_wide}
use Rattle.snapshot_file.specs.declared.snapshot.Header.{Header}
use Rattle.snapshot_file.specs.Snapshots.{shape_of}
use Rattle.version_store.specs.declared.held_records.HeldRecords.{HeldRecords}
use Rattle.version_store.specs.HeldRecords.{bytes_held_by, is_in_digits, HasShape}
use Rattle.version_store.specs.Openings.{IsSound}

-- records that a store is opened with under the fields of their snapshot: in digits alone exactly
-- in a wide form
pub record IsHeldFor (h : Header) (held : HeldRecords) : Type 0 where
  pub sound : IsSound h (bytes_held_by held)
  pub kind : is_in_digits held ≡ is_wide h.form
  pub shape : HasShape (shape_of h) held
