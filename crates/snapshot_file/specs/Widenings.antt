-- The records of an ordinary store in a wide one.
use Rattle.std.specs.Prelude.{◌≡◌, ◌⊎◌, ◌<◌, ◌≤◌, ◌+◌, ℕ, List}
use Rattle.digit_pack.specs.Layout.{IsLayout}
use Rattle.snapshot_file.specs.declared.widening.WidenError.{WidenError}
use Rattle.snapshot_file.specs.declared.widening.WidenError.TheVariants.{NotOrdinary, BadWidth, Memory}
use Rattle.snapshot_file.specs.declared.snapshot.Header.{Header}
use Rattle.snapshot_file.specs.declared.snapshot.Snapshot.{Snapshot}
use Rattle.snapshot_file.specs.Snapshots.{header_of, shape_of}

-- the forms of ordinary stores
abbrev pub IsOrdinaryForm : ℕ → Type 0
IsOrdinaryForm form = (form ≡ 1) ⊎ (form ≡ 2)

-- the fields of the same records in a wide store, with another public seed
abbrev pub in_wide : Header → List ℕ → Header
in_wide h seed = record h { form = h.form + 128; seed = seed }

-- a wide snapshot of an ordinary one's records
pub record IsWidened (h : Header) (seed records : List ℕ) (wide : Snapshot) : Type 0 where
  pub form : IsOrdinaryForm h.form
  pub layout : IsLayout (shape_of (in_wide h seed))
  pub header : header_of wide ≡ in_wide h seed
  pub same : wide.records.items ≡ records

-- the first cause that holds
abbrev pub IsWidenFault : Header → WidenError → Type 0
IsWidenFault h NotOrdinary = ¬ IsOrdinaryForm h.form
IsWidenFault h BadWidth = IsOrdinaryForm h.form × (9 < h.width)
IsWidenFault h Memory = IsOrdinaryForm h.form × (h.width ≤ 9)
