-- What faults are called where they are printed.
use Rattle.std.specs.Prelude.{ℕ, List, codes}
use Rattle.version_store.specs.declared.store.EditError.{EditError}
use Rattle.version_store.specs.declared.store.EditError.TheVariants as edit
use Rattle.version_store.specs.declared.store.AppendError.{AppendError}
use Rattle.version_store.specs.declared.store.AppendError.TheVariants as append
use Rattle.version_store.specs.declared.store.PublishError.{PublishError}
use Rattle.version_store.specs.declared.store.PublishError.TheVariants as publish
use Rattle.version_store.specs.declared.opening.OpenError.{OpenError}
use Rattle.version_store.specs.declared.opening.OpenError.TheVariants as opening

-- the name of a refused edit
unfoldable pub edit_fault_name : EditError → List ℕ
edit_fault_name edit.BadIndex = codes "BadIndex"
edit_fault_name edit.BadLength = codes "BadLength"
edit_fault_name edit.Memory = codes "Memory"

-- the name of a refused append
unfoldable pub append_fault_name : AppendError → List ℕ
append_fault_name append.BadLength = codes "BadLength"
append_fault_name append.Full = codes "Full"
append_fault_name append.Memory = codes "Memory"

-- the name of a refused publication
unfoldable pub publish_fault_name : PublishError → List ℕ
publish_fault_name publish.NothingToPublish = codes "NothingToPublish"
publish_fault_name publish.VersionsUsedUp = codes "VersionsUsedUp"
publish_fault_name publish.Memory = codes "Memory"

-- the name of a refused store
unfoldable pub open_fault_name : OpenError → List ℕ
open_fault_name opening.BadLayout = codes "BadLayout"
open_fault_name opening.BadVersion = codes "BadVersion"
open_fault_name opening.BadRecords = codes "BadRecords"
open_fault_name opening.Memory = codes "Memory"
