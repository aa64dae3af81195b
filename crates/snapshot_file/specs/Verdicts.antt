-- What a reader makes of its input, by cases in the order in which the bytes are judged.
use Rattle.std.specs.Prelude.{◌≡◌, ◌<◌, ◌≤◌, ◌+◌, ◌⊎◌, ℕ, List, [], ◌∷◌, ◌++◌, length, take, false, Option, Result, Ok, Err}
use Rattle.std.specs.Io.KnownBytes.{IsAtEnd}
use Rattle.sha2.specs.Sha256.{sha256}
use Rattle.snapshot_file.specs.declared.snapshot.Header.{Header}
use Rattle.snapshot_file.specs.declared.snapshot.SnapshotFault.{SnapshotFault}
use Rattle.snapshot_file.specs.declared.snapshot.SnapshotFault.TheVariants as faults
use Rattle.snapshot_file.specs.Snapshots.{magic, fields_len, header_bytes, hashed_bytes, snapshot_bytes, records_len, has_slots, IsForm, IsWideForm, IsMagic, IsHeader, IsAccepted, IsFile, IsSnapshot}

-- the magic of a form and a part of its fields
abbrev pub EndsInHeader : List ℕ → Type 0
EndsInHeader bytes = (form : ℕ) × (fields : List ℕ) × IsForm form × (bytes ≡ magic form ++ fields) × (length fields < fields_len form)

-- an accepted header, and bytes after it
abbrev pub HasHeader : List ℕ → Header → List ℕ → Type 0
HasHeader bytes h rest = IsHeader h × IsAccepted h × (bytes ≡ header_bytes h ++ rest)

-- an accepted header, and a part of its records and their digest
abbrev pub EndsAfterHeader : List ℕ → Type 0
EndsAfterHeader bytes = (h : Header) × (rest : List ℕ) × HasHeader bytes h rest × (length rest < records_len h + 32)

-- bytes without a fault so far, of which more are wanted
abbrev pub IsUnfinished : List ℕ → Type 0
IsUnfinished bytes = (length bytes < 8) ⊎ EndsInHeader bytes ⊎ EndsAfterHeader bytes

-- the fields of a wide header that names no wide form, and bytes after them
abbrev pub HasBadForm : List ℕ → List ℕ → Type 0
HasBadForm bytes rest = (form : ℕ) × (fields : List ℕ) × (¬ IsWideForm form) × (length fields ≡ 83)
    × (bytes ≡ magic 129 ++ ((form ∷ fields) ++ rest))

-- a header that is not accepted, and bytes after it
abbrev pub HasBadHeader : List ℕ → List ℕ → Type 0
HasBadHeader bytes rest = ((h : Header) × IsHeader h × (¬ IsAccepted h) × (bytes ≡ header_bytes h ++ rest)) ⊎ HasBadForm bytes rest

-- header and records with another digest than theirs, and bytes after it
abbrev pub HasBadDigest : List ℕ → List ℕ → Type 0
HasBadDigest bytes rest = (h : Header) × (records : List ℕ) × (digest : List ℕ) × IsFile h records × (length digest ≡ 32)
    × (¬ (digest ≡ sha256 (hashed_bytes h records))) × (bytes ≡ hashed_bytes h records ++ digest ++ rest)

-- a whole file, its slots not judged, and bytes after it
abbrev pub HasFile : List ℕ → List ℕ → Type 0
HasFile bytes rest = (h : Header) × (records : List ℕ) × IsFile h records × (bytes ≡ snapshot_bytes h records ++ rest)

-- a whole file with a bad slot
abbrev pub HasBadSlot : List ℕ → Type 0
HasBadSlot bytes = (h : Header) × (records : List ℕ) × IsFile h records × (has_slots h records ≡ false) × (bytes ≡ snapshot_bytes h records)

-- the fault of a whole input, if nothing keeps it from being read
abbrev pub HasSnapshotFault : SnapshotFault → List ℕ → Type 0
HasSnapshotFault faults.NotSnapshot bytes = (8 ≤ length bytes) × ¬ IsMagic (take 8 bytes)
HasSnapshotFault faults.BadLayout bytes = (rest : List ℕ) × HasBadHeader bytes rest
HasSnapshotFault faults.Short bytes = IsUnfinished bytes
HasSnapshotFault faults.BadDigest bytes = (rest : List ℕ) × HasBadDigest bytes rest
HasSnapshotFault faults.TrailingBytes bytes = (b : ℕ) × (rest : List ℕ) × HasFile bytes (b ∷ rest)
HasSnapshotFault faults.Read bytes = ⊥
HasSnapshotFault faults.Memory bytes = ⊥
HasSnapshotFault faults.BadSlot bytes = HasBadSlot bytes

-- what a whole input is: a snapshot of this header and these records, or its fault
abbrev pub IsVerdict : List ℕ → Result (Header × List ℕ) SnapshotFault → Type 0
IsVerdict bytes (Ok s) = IsSnapshot s.0 s.1 × (bytes ≡ snapshot_bytes s.0 s.1)
IsVerdict bytes (Err fault) = HasSnapshotFault fault bytes

-- what may be returned for a whole input in place of its snapshot: its fault, or that a read failed
-- or, after an accepted header, that memory was refused
abbrev pub MayRefuse : SnapshotFault → List ℕ → Type 0
MayRefuse faults.NotSnapshot bytes = HasSnapshotFault faults.NotSnapshot bytes
MayRefuse faults.BadLayout bytes = HasSnapshotFault faults.BadLayout bytes
MayRefuse faults.Short bytes = HasSnapshotFault faults.Short bytes
MayRefuse faults.BadDigest bytes = HasSnapshotFault faults.BadDigest bytes
MayRefuse faults.TrailingBytes bytes = HasSnapshotFault faults.TrailingBytes bytes
MayRefuse faults.Read bytes = Unit {0}
MayRefuse faults.Memory bytes = (h : Header) × (rest : List ℕ) × HasHeader bytes h rest
MayRefuse faults.BadSlot bytes = HasSnapshotFault faults.BadSlot bytes

-- what had been read when reading stopped, and what was left: a fault is reported with the first
-- byte that makes it, and a bad slot at the end of the input
abbrev pub StopsReadingAt : SnapshotFault → List ℕ → Option (List ℕ) → Type 0
StopsReadingAt faults.NotSnapshot read left = (length read ≡ 8) × ¬ IsMagic read
StopsReadingAt faults.BadLayout read left = HasBadHeader read []
StopsReadingAt faults.Short read left = IsUnfinished read × IsAtEnd left
StopsReadingAt faults.BadDigest read left = HasBadDigest read []
StopsReadingAt faults.TrailingBytes read left = (b : ℕ) × HasFile read (b ∷ [])
StopsReadingAt faults.Read read left = IsUnfinished read ⊎ HasFile read []
StopsReadingAt faults.Memory read left = (h : Header) × (rest : List ℕ) × HasHeader read h rest
StopsReadingAt faults.BadSlot read left = HasBadSlot read × IsAtEnd left

-- what came before so many bytes were there: the input ended, or a read failed
abbrev pub EndsBelow : ℕ → SnapshotFault → List ℕ → Option (List ℕ) → Type 0
EndsBelow wanted faults.Short part left = (length part < wanted) × IsAtEnd left
EndsBelow wanted faults.Read part left = length part < wanted
EndsBelow wanted _ part left = ⊥

-- the end before so many bytes were there, or memory for what came was refused
abbrev pub EndsKept : ℕ → SnapshotFault → List ℕ → Option (List ℕ) → Type 0
EndsKept wanted faults.Memory part left = Unit {0}
EndsKept wanted faults.Short part left = (length part < wanted) × IsAtEnd left
EndsKept wanted faults.Read part left = length part < wanted
EndsKept wanted _ part left = ⊥

-- what came where the input should end: a byte, or a read failed
abbrev pub EndsAfter : SnapshotFault → List ℕ → Type 0
EndsAfter faults.TrailingBytes part = (b : ℕ) × (part ≡ b ∷ [])
EndsAfter faults.Read part = part ≡ []
EndsAfter _ part = ⊥

-- what came where this digest and then the end should be: less, another digest, a byte after it, or
-- a read failed
abbrev pub EndsAtDigest : List ℕ → SnapshotFault → List ℕ → Option (List ℕ) → Type 0
EndsAtDigest digest faults.Short part left = (length part < 32) × IsAtEnd left
EndsAtDigest digest faults.Read part left = (length part < 32) ⊎ (part ≡ digest)
EndsAtDigest digest faults.BadDigest part left = (length part ≡ 32) × ¬ (part ≡ digest)
EndsAtDigest digest faults.TrailingBytes part left = (b : ℕ) × (part ≡ digest ++ b ∷ [])
EndsAtDigest digest _ part left = ⊥
