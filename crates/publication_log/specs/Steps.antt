-- The steps by which an entry comes to the end of a log, and by which an end is cut off.
use Rattle.std.specs.Prelude.{◌≡◌, ◌<◌, ◌≤◌, Bool, true, false, ℕ, List, [], ◌∷◌, Result, Ok, Err}
use Rattle.std.specs.List.{FoldsTo}
use Rattle.publication_log.specs.declared.log.AppendFault.{AppendFault}
use Rattle.publication_log.specs.declared.log.AppendFault.TheVariants as appends
use Rattle.publication_log.specs.declared.log.CutFault.{CutFault}
use Rattle.publication_log.specs.declared.log.CutFault.TheVariants as cuts

-- one step, and what came of it
pub data LogStep : Type 0 where
  -- these bytes were written at the end
  Writes : List ℕ → LogStep
  -- some of them were, from their start on, or none
  WriteFails : List ℕ → LogStep
  -- all bytes went to the device, and so did the file's length
  Syncs : LogStep
  SyncFails : LogStep
  -- what is after so many bytes was cut off
  Truncates : ℕ → LogStep
  TruncateFails : ℕ → LogStep

-- the step that a write was, by its result
abbrev pub write_step : {T E : Type 0} → List ℕ → Result T E → LogStep
write_step bytes (Ok _) = Writes bytes
write_step bytes (Err _) = WriteFails bytes

-- the step that a sync was, by its result
abbrev pub log_sync_step : {T E : Type 0} → Result T E → LogStep
log_sync_step (Ok _) = Syncs
log_sync_step (Err _) = SyncFails

-- the step that a truncation was, by its result
abbrev pub truncate_step : {T E : Type 0} → ℕ → Result T E → LogStep
truncate_step len (Ok _) = Truncates len
truncate_step len (Err _) = TruncateFails len

-- all steps of an append that ended so
abbrev pub append_course : {T : Type 0} → List ℕ → Result T AppendFault → List LogStep
append_course bytes (Ok _) = Writes bytes ∷ Syncs ∷ []
append_course bytes (Err appends.Memory) = []
append_course bytes (Err appends.Torn) = []
append_course bytes (Err appends.Full) = []
append_course bytes (Err appends.Write) = WriteFails bytes ∷ []
append_course bytes (Err appends.Sync) = Writes bytes ∷ SyncFails ∷ []

-- all steps of a cut that ended so
abbrev pub cut_course : {T : Type 0} → ℕ → Result T CutFault → List LogStep
cut_course len (Ok _) = Truncates len ∷ Syncs ∷ []
cut_course len (Err cuts.Truncate) = TruncateFails len ∷ []
cut_course len (Err cuts.Sync) = Truncates len ∷ SyncFails ∷ []

-- the disk took the steps of an append and no others
abbrev pub AppendsToLog : {D T : Type 0} → (D → LogStep → D → Type 0) → List ℕ → D → Result T AppendFault → D → Type 0
AppendsToLog does bytes old result new = FoldsTo does old (append_course bytes result) new

-- the disk took the steps of a cut and no others
abbrev pub Cuts : {D T : Type 0} → (D → LogStep → D → Type 0) → ℕ → D → Result T CutFault → D → Type 0
Cuts does len old result new = FoldsTo does old (cut_course len result) new

-- whether a log has a torn end after an append, if that is known from before
abbrev pub is_torn_after : {T : Type 0} → Bool → Result T AppendFault → Bool
is_torn_after before (Ok _) = false
is_torn_after before (Err appends.Memory) = before
is_torn_after before (Err appends.Torn) = before
is_torn_after before (Err appends.Full) = before
is_torn_after before (Err appends.Write) = true
is_torn_after before (Err appends.Sync) = true

-- whether a log has a torn end after a cut, if that is known from before
abbrev pub is_torn_after_cut : {T : Type 0} → Bool → Result T CutFault → Bool
is_torn_after_cut before (Ok _) = false
is_torn_after_cut before (Err _) = before

-- the disk of a log that was read: what is after the good bytes was cut off, if anything was
pub record Recovers {D : Type 0} (does : D → LogStep → D → Type 0) (good all : ℕ) (old new : D) : Type 0 where
  pub torn : good < all → FoldsTo does old (Truncates good ∷ Syncs ∷ []) new
  pub whole : all ≤ good → new ≡ old
