-- What a crash leaves of a file that is being replaced.
use Rattle.std.specs.Prelude.{◌≡◌, ◌⊎◌, ℕ, List, [], ◌∷◌, Option, Some, None, ⊤}
use Rattle.safe_files.specs.Steps.{FileStep, Makes, MakeFails, Syncs, SyncFails, Renames, RenameFails, SyncsFolder, SyncFolderFails, Removes}

-- what a name on the device leads to: the old file; one of both, since the renaming has not reached
-- the device, or failed and may have been done; the new file
pub data Lead : Type 0 where
  Old : Lead
  Either : Lead
  Unclear : Lead
  New : Lead

-- the name, the bytes that the new file had when it was last synced, and those that it had when it
-- was renamed
pub record FileDevice : Type 0 where
  pub lead : Lead
  pub synced : Option (List ℕ)
  pub renamed : Option (List ℕ)

-- nothing has happened to the old file
abbrev pub at_rest : FileDevice
at_rest = record { lead = Old; synced = None; renamed = None }

-- a folder that was synced leads to the new file, if the renaming was done
abbrev pub settled : Lead → Lead
settled Old = Old
settled Either = New
settled Unclear = Unclear
settled New = New

-- A file of these bytes was synced and given the name, and whoever did that was killed before the
-- folder was synced.
abbrev pub just_renamed : List ℕ → FileDevice
just_renamed bytes = record { lead = Either; synced = Some bytes; renamed = Some bytes }

-- where one step leads
abbrev pub after_step : FileDevice → FileStep → FileDevice
after_step device Makes = record device { synced = None }
after_step device MakeFails = device
after_step device (Syncs shown) = record device { synced = shown }
after_step device SyncFails = record device { synced = None }
after_step device (Renames shown) = record device { lead = Either; renamed = shown }
after_step device RenameFails = record device { lead = Unclear; renamed = device.synced }
after_step device SyncsFolder = record device { lead = settled device.lead }
after_step device SyncFolderFails = device
after_step device Removes = device

-- where steps lead, one after the other
abbrev pub after_steps : FileDevice → List FileStep → FileDevice
after_steps device [] = device
after_steps device (step ∷ steps) = after_steps (after_step device step) steps

-- a crash may leave this of a file: the bytes that were synced, or any if none were
abbrev pub MayHold : Option (List ℕ) → List ℕ → Type 0
MayHold None found = ⊤
MayHold (Some bytes) found = found ≡ bytes

-- A crash may leave this of the new file. If it was renamed with other bytes than were synced, that
-- is anything.
abbrev pub MayLeaveNew : FileDevice → List ℕ → Type 0
MayLeaveNew device found = device.synced ≡ device.renamed → MayHold device.synced found

-- a crash may leave these bytes in the file of the name, whose old ones are given
abbrev pub MayLeave : List ℕ → Lead → FileDevice → List ℕ → Type 0
MayLeave old Old device found = found ≡ old
MayLeave old Either device found = (found ≡ old) ⊎ MayLeaveNew device found
MayLeave old Unclear device found = (found ≡ old) ⊎ MayLeaveNew device found
MayLeave old New device found = MayLeaveNew device found

-- whatever a crash leaves is the old bytes or the new ones, whole
abbrev pub IsOldOrNew : List ℕ → List ℕ → FileDevice → Type 0
IsOldOrNew old bytes device = (found : List ℕ) → MayLeave old device.lead device found → (found ≡ old) ⊎ (found ≡ bytes)

-- whatever a crash leaves is these bytes
abbrev pub IsSurely : List ℕ → List ℕ → FileDevice → Type 0
IsSurely old bytes device = (found : List ℕ) → MayLeave old device.lead device found → found ≡ bytes

-- P at the start and after each of the steps
abbrev pub HoldsThroughout : (FileDevice → Type 0) → FileDevice → List FileStep → Type 0
HoldsThroughout P device [] = P device
HoldsThroughout P device (step ∷ steps) = P device × HoldsThroughout P (after_step device step) steps
