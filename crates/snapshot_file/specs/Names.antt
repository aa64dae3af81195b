-- What faults are called when they are printed.
use Rattle.std.specs.Prelude.{ℕ, List, codes}
use Rattle.snapshot_file.specs.declared.migration.MigrateError.{MigrateError}
use Rattle.snapshot_file.specs.declared.migration.MigrateError.TheVariants as migration
use Rattle.snapshot_file.specs.declared.snapshot.SnapshotFault.{SnapshotFault}
use Rattle.snapshot_file.specs.declared.snapshot.SnapshotFault.TheVariants as snapshot
use Rattle.snapshot_file.specs.declared.widening.WidenError.{WidenError}
use Rattle.snapshot_file.specs.declared.widening.WidenError.TheVariants as widening

-- the name of what is no snapshot
unfoldable pub snapshot_fault_name : SnapshotFault → List ℕ
snapshot_fault_name snapshot.NotSnapshot = codes "NotSnapshot"
snapshot_fault_name snapshot.BadLayout = codes "BadLayout"
snapshot_fault_name snapshot.Short = codes "Short"
snapshot_fault_name snapshot.BadDigest = codes "BadDigest"
snapshot_fault_name snapshot.TrailingBytes = codes "TrailingBytes"
snapshot_fault_name snapshot.Read = codes "Read"
snapshot_fault_name snapshot.Memory = codes "Memory"
snapshot_fault_name snapshot.BadSlot = codes "BadSlot"

-- the name of why records are not moved into slots
unfoldable pub migrate_error_name : MigrateError → List ℕ
migrate_error_name migration.NotFormOne = codes "NotFormOne"
migrate_error_name migration.TooWide = codes "TooWide"
migrate_error_name migration.Memory = codes "Memory"

-- the name of why no wide snapshot is made
unfoldable pub widen_error_name : WidenError → List ℕ
widen_error_name widening.NotOrdinary = codes "NotOrdinary"
widen_error_name widening.BadWidth = codes "BadWidth"
widen_error_name widening.Memory = codes "Memory"
