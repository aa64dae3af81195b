-- What a crash leaves of a log, and what is read of that.
use Rattle.std.specs.Prelude.{◌≡◌, ◌⊎◌, ◌-◌, ℕ, List, [], ◌∷◌, ◌++◌, length, take, drop, Result, Ok, Err, ⊤}
use Rattle.publication_log.specs.declared.header.LogHeader.{LogHeader}
use Rattle.publication_log.specs.declared.reading.BadLog.{BadLog}
use Rattle.publication_log.specs.declared.log.AppendFault.{AppendFault}
use Rattle.publication_log.specs.declared.log.AppendFault.TheVariants.{Write, Sync}
use Rattle.publication_log.specs.declared.log.CutFault.{CutFault}
use Rattle.publication_log.specs.Publications.{Published, body_bytes}
use Rattle.publication_log.specs.Entries.{log_entry, IsTorn}
use Rattle.publication_log.specs.Logs.{log_bytes, end_link, AreNext, IsLogVerdict}
use Rattle.publication_log.specs.Steps.{LogStep, Writes, WriteFails, Syncs, SyncFails, Truncates, TruncateFails, append_course, cut_course}

-- what surely is in the file, what was written after that, and what was cut off after both, all
-- since the last sync
pub record LogDevice : Type 0 where
  pub synced : List ℕ
  pub pending : List ℕ
  pub cut : List ℕ

-- a file all of which is on the device
abbrev pub log_at_rest : List ℕ → LogDevice
log_at_rest bytes = record { synced = bytes; pending = []; cut = [] }

-- a file that was cut to so many bytes
abbrev pub truncated : ℕ → LogDevice → LogDevice
truncated len device = record {
  synced = take len device.synced;
  pending = take (len - length device.synced) device.pending;
  cut = drop len (device.synced ++ device.pending) ++ device.cut;
}

-- where one step leads
abbrev pub after_log_step : LogDevice → LogStep → LogDevice
after_log_step device (Writes bytes) = record device { pending = device.pending ++ bytes }
after_log_step device (WriteFails bytes) = record device { pending = device.pending ++ bytes }
after_log_step device Syncs = log_at_rest (device.synced ++ device.pending)
after_log_step device SyncFails = device
after_log_step device (Truncates len) = truncated len device
after_log_step device (TruncateFails len) = device

-- where steps lead, one after another
abbrev pub after_log_steps : LogDevice → List LogStep → LogDevice
after_log_steps device [] = device
after_log_steps device (step ∷ steps) = after_log_steps (after_log_step device step) steps

-- Torn bytes after a log that is on the device. Bytes that are no prefix of what was written or cut
-- off are supposed to have no entry with its SHA-256 among them by chance.
abbrev pub IsTornTail : LogHeader → List ℕ → List ℕ → Type 0
IsTornTail h synced tail = (ps : List Published) × AreNext h.version ps × (synced ≡ log_bytes h ps) × IsTorn (end_link h ps) tail

-- a crash may leave this: what is surely there, and any prefix of what was written or cut off after
-- it, or torn bytes
abbrev pub MayLeaveOfLog : LogHeader → LogDevice → List ℕ → Type 0
MayLeaveOfLog h device found = (tail : List ℕ) × (found ≡ device.synced ++ tail) × (((n : ℕ) × (tail ≡ take n (device.pending ++ device.cut))) ⊎ IsTornTail h device.synced tail)

-- P of whatever is read of what a crash leaves
abbrev pub LeavesOnly : LogHeader → (Result (List Published × List ℕ) BadLog → Type 0) → LogDevice → Type 0
LeavesOnly h P device = (found : List ℕ) (verdict : Result (List Published × List ℕ) BadLog) → MayLeaveOfLog h device found → IsLogVerdict h found verdict → P verdict

-- P at the start and after each of the steps
abbrev pub HoldsAtEachStep : (LogDevice → Type 0) → LogDevice → List LogStep → Type 0
HoldsAtEachStep P device [] = P device
HoldsAtEachStep P device (step ∷ steps) = P device × HoldsAtEachStep P (after_log_step device step) steps

-- a good log of these publications, with a torn end or none
abbrev pub IsGoodLogOf : List Published → Result (List Published × List ℕ) BadLog → Type 0
IsGoodLogOf ps verdict = (torn : List ℕ) × (verdict ≡ Ok (ps, torn))

-- a good log of these publications, with the new one or without
abbrev pub IsWithOrWithout : List Published → Published → Result (List Published × List ℕ) BadLog → Type 0
IsWithOrWithout ps p verdict = IsGoodLogOf ps verdict ⊎ IsGoodLogOf (ps ++ p ∷ []) verdict

-- a log of these publications, all of it on the device
abbrev pub log_of : LogHeader → List Published → LogDevice
log_of h ps = log_at_rest (log_bytes h ps)

-- publications, and one more that may be appended to their log
abbrev pub MayFollow : LogHeader → List Published → Published → Type 0
MayFollow h ps p = AreNext h.version (ps ++ p ∷ [])

-- the steps of an append to a log of publications
abbrev pub appending : {T : Type 0} → LogHeader → List Published → Published → Result T AppendFault → List LogStep
appending h ps p result = append_course (log_entry (end_link h ps) (body_bytes p)) result

-- the steps of a cut back to a log of publications
abbrev pub cutting : {T : Type 0} → LogHeader → List Published → Result T CutFault → List LogStep
cutting h ps result = cut_course (length (log_bytes h ps)) result

-- at each moment of an append, however it ends, a crash leaves the publications from before it,
-- with the new one or without
abbrev pub EachMomentIsWhole : Type 0
EachMomentIsWhole = (h : LogHeader) (ps : List Published) (p : Published) (result : Result ⊤ AppendFault) → MayFollow h ps p →
    HoldsAtEachStep (LeavesOnly h (IsWithOrWithout ps p)) (log_of h ps) (appending h ps p result)

-- after an append that was done the log is at rest, with the new publication
abbrev pub DoneIsKept : Type 0
DoneIsKept = (h : LogHeader) (ps : List Published) (p : Published) (done : ⊤) →
    after_log_steps (log_of h ps) (appending h ps p (Ok done)) ≡ log_of h (ps ++ p ∷ [])

-- a log at rest is read as its publications
abbrev pub RestIsRead : Type 0
RestIsRead = (h : LogHeader) (ps : List Published) → AreNext h.version ps → LeavesOnly h (IsGoodLogOf ps) (log_of h ps)

-- an append that failed after it began to write
abbrev pub HasFailed : Result ⊤ AppendFault → Type 0
HasFailed result = (result ≡ Err Write) ⊎ (result ≡ Err Sync)

-- at each moment of a cut after a failed append a crash leaves the publications from before that,
-- with the new one or without
abbrev pub CutIsWhole : Type 0
CutIsWhole = (h : LogHeader) (ps : List Published) (p : Published) (failed : Result ⊤ AppendFault) (result : Result ⊤ CutFault) → MayFollow h ps p → HasFailed failed →
    HoldsAtEachStep (LeavesOnly h (IsWithOrWithout ps p)) (after_log_steps (log_of h ps) (appending h ps p failed)) (cutting h ps result)

-- after a cut that was done the log is at rest, without the publication whose append failed
abbrev pub CutIsOld : Type 0
CutIsOld = (h : LogHeader) (ps : List Published) (p : Published) (failed : Result ⊤ AppendFault) (done : ⊤) → HasFailed failed →
    after_log_steps (after_log_steps (log_of h ps) (appending h ps p failed)) (cutting h ps (Ok done)) ≡ log_of h ps

-- at each moment of a cut of a torn end a crash leaves the publications before it
abbrev pub RecoveryIsWhole : Type 0
RecoveryIsWhole = (h : LogHeader) (ps : List Published) (torn : List ℕ) (result : Result ⊤ CutFault) → AreNext h.version ps → IsTorn (end_link h ps) torn →
    HoldsAtEachStep (LeavesOnly h (IsGoodLogOf ps)) (log_at_rest (log_bytes h ps ++ torn)) (cutting h ps result)

-- after a cut of a torn end that was done the log is at rest
abbrev pub RecoveryIsDone : Type 0
RecoveryIsDone = (h : LogHeader) (ps : List Published) (torn : List ℕ) (done : ⊤) →
    after_log_steps (log_at_rest (log_bytes h ps ++ torn)) (cutting h ps (Ok done)) ≡ log_of h ps

-- at each moment of taking a publication back that was appended, a crash leaves the publications
-- from before it, with that one or without
abbrev pub TakenBackIsWhole : Type 0
TakenBackIsWhole = (h : LogHeader) (ps : List Published) (p : Published) (result : Result ⊤ CutFault) → MayFollow h ps p →
    HoldsAtEachStep (LeavesOnly h (IsWithOrWithout ps p)) (log_of h (ps ++ p ∷ [])) (cutting h ps result)

-- after a publication was taken back the log is at rest without it
abbrev pub TakenBackIsOld : Type 0
TakenBackIsOld = (h : LogHeader) (ps : List Published) (p : Published) (done : ⊤) →
    after_log_steps (log_of h (ps ++ p ∷ [])) (cutting h ps (Ok done)) ≡ log_of h ps
