-- What reads and writes do to a connection, in their order.
use Rattle.std.specs.Prelude.{◌≡◌, ℕ, List, map, length, take, Result, Ok, Err}
use Rattle.std.specs.List.{FoldsTo, concat}

-- one call, and what came of it
pub data IoCall : Type 0 where
  -- a read with room for so many bytes gave these; none are the end
  Read : (room : ℕ) (bytes : List ℕ) → IoCall
  ReadFails : IoCall
  -- a write took these bytes
  Write : (bytes : List ℕ) → IoCall
  -- a write failed, or took none of the bytes that it was given
  WriteFails : IoCall

-- what a read did, into a buffer that holds these bytes after it
abbrev pub io_read : {E : Type 0} → Result ℕ E → List ℕ → IoCall
io_read (Ok n) buffer = Read (length buffer) (take n buffer)
io_read (Err e) buffer = ReadFails

-- what a write of these bytes did
abbrev pub io_write : {E : Type 0} → Result ℕ E → List ℕ → IoCall
io_write (Ok n) bytes = Write (take n bytes)
io_write (Err e) bytes = WriteFails

-- all of some bytes were written, in as many writes as it took
abbrev pub Sends : {C : Type 0} → (C → IoCall → C → Type 0) → C → List ℕ → C → Type 0
Sends does a bytes b = (parts : List (List ℕ)) × (concat parts ≡ bytes) × FoldsTo does a (map Write parts) b

-- some bytes were written, and then a write failed
abbrev pub SendsUntilFault : {C : Type 0} → (C → IoCall → C → Type 0) → C → List ℕ → C → Type 0
SendsUntilFault {C = C} does a bytes b = (m : C) × Sends does a bytes m × does m WriteFails b
