-- The steps by which a file is replaced, and in which order they are taken.
use Rattle.std.specs.Prelude.{ℕ, List, [], ◌∷◌, drop, Option, Result, Ok, Err, ⊤}
use Rattle.std.specs.List.{FoldsTo}
use Rattle.std.specs.Io.KnownBytes.{Appends}
use Rattle.safe_files.specs.declared.replacing.ReplaceFault.{ReplaceFault}
use Rattle.safe_files.specs.declared.replacing.SettleFault.{SettleFault}
use Rattle.safe_files.specs.declared.replacing.SettleFault.TheVariants as settle
use Rattle.safe_files.specs.declared.replacing.ReplaceFault.TheVariants.{Make, Write, Memory, Sync, Rename, SyncFolder}

-- One step, and what came of it. The bytes are those that the new file shows, if it shows them.
pub data FileStep : Type 0 where
  -- a new file was made beside the old one
  Makes : FileStep
  MakeFails : FileStep
  -- the bytes of the new file went to the device
  Syncs : Option (List ℕ) → FileStep
  SyncFails : FileStep
  -- the new file, with these bytes, was given the old one's name
  Renames : Option (List ℕ) → FileStep
  RenameFails : FileStep
  -- the names in the folder went to the device
  SyncsFolder : FileStep
  SyncFolderFails : FileStep
  -- the new file was removed, or is left if that failed
  Removes : FileStep

-- the step that a making was, by its answer
abbrev pub make_step : {T E : Type 0} → Result T E → FileStep
make_step (Ok _) = Makes
make_step (Err _) = MakeFails

-- the step that a sync of a file was, by what the file shows and the answer
abbrev pub sync_step : {T E : Type 0} → Option (List ℕ) → Result T E → FileStep
sync_step shown (Ok _) = Syncs shown
sync_step shown (Err _) = SyncFails

-- the step that a renaming was, by what the file shows and the answer
abbrev pub rename_step : {T E : Type 0} → Option (List ℕ) → Result T E → FileStep
rename_step shown (Ok _) = Renames shown
rename_step shown (Err _) = RenameFails

-- the step that a sync of the folder was, by its answer
abbrev pub sync_folder_step : {T E : Type 0} → Result T E → FileStep
sync_folder_step (Ok _) = SyncsFolder
sync_folder_step (Err _) = SyncFolderFails

-- All steps of a replacement that ended so, in their order. A file that was made and not renamed is
-- removed.
abbrev pub course : {T : Type 0} → Option (List ℕ) → Result T ReplaceFault → List FileStep
course shown (Ok _) = Makes ∷ Syncs shown ∷ Renames shown ∷ SyncsFolder ∷ []
course shown (Err Make) = MakeFails ∷ []
course shown (Err Write) = Makes ∷ Removes ∷ []
course shown (Err Memory) = Makes ∷ Removes ∷ []
course shown (Err Sync) = Makes ∷ SyncFails ∷ Removes ∷ []
course shown (Err Rename) = Makes ∷ Syncs shown ∷ RenameFails ∷ Removes ∷ []
course shown (Err SyncFolder) = Makes ∷ Syncs shown ∷ Renames shown ∷ SyncFolderFails ∷ []

-- what may fail once the new file was written
abbrev pub IsFinishFault : ReplaceFault → Type 0
IsFinishFault Make = ⊥
IsFinishFault Write = ⊥
IsFinishFault Memory = ⊥
IsFinishFault Sync = ⊤
IsFinishFault Rename = ⊤
IsFinishFault SyncFolder = ⊤

-- All steps of a replacement but the first, the making of the new file, in their order: those that
-- are left once it was written.
abbrev pub finishing : {T : Type 0} → Option (List ℕ) → Result T ReplaceFault → List FileStep
finishing shown result = drop 1 (course shown result)

-- All steps by which an existing file is sent to the device, in their order.
abbrev pub settling : {T : Type 0} → Option (List ℕ) → Result T SettleFault → List FileStep
settling shown (Ok _) = Syncs shown ∷ SyncsFolder ∷ []
settling shown (Err settle.Sync) = SyncFails ∷ []
settling shown (Err settle.SyncFolder) = Syncs shown ∷ SyncFolderFails ∷ []

-- The disk took these steps and no others, and what the new file showed when it was synced and
-- renamed is what a new file shows and then the bytes.
abbrev pub Replaces : {D T : Type 0} → (D → FileStep → D → Type 0) → Option (List ℕ) → List ℕ → D → Result T ReplaceFault → D → Type 0
Replaces does fresh bytes old result new = (shown : Option (List ℕ)) × Appends fresh shown bytes × FoldsTo does old (course shown result) new
