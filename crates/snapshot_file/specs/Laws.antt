-- Laws of snapshots.
use Rattle.std.specs.Prelude.{◌≡◌, ◌<◌, ◌≤◌, ◌+◌, ℕ, List, ◌++◌, length, take, slice_index, Result}
use Rattle.byteorder.specs.Endian.{little_bytes, little_number}
use Rattle.snapshot_file.specs.declared.snapshot.Header.{Header}
use Rattle.snapshot_file.specs.declared.snapshot.SnapshotFault.{SnapshotFault}
use Rattle.snapshot_file.specs.Snapshots.{fields_len, header_bytes, snapshot_bytes, records_len, IsSnapshot}
use Rattle.snapshot_file.specs.Verdicts.{IsVerdict}

-- the bytes that are read as a number are its only encoding in so many bytes
abbrev pub OneNumber : Type 0
OneNumber = (n : ℕ) (bytes : List ℕ) → ((i : ℕ) → slice_index bytes i < 256) → n ≤ length bytes → little_bytes n (little_number n bytes) ≡ take n bytes

-- a header has 91 bytes, and a snapshot 123 and those of its records; in a wide form each has one
-- more
abbrev pub LengthOfSnapshot : Type 0
LengthOfSnapshot = (h : Header) (records : List ℕ) → IsSnapshot h records →
    (length (header_bytes h) ≡ 8 + fields_len h.form) × (length (snapshot_bytes h records) ≡ 40 + fields_len h.form + records_len h)

-- no snapshot begins another, and no two have the same bytes
abbrev pub OneSnapshot : Type 0
OneSnapshot = (h k : Header) (records others rest end : List ℕ) → IsSnapshot h records → IsSnapshot k others →
    snapshot_bytes h records ++ rest ≡ snapshot_bytes k others ++ end → (h ≡ k) × (records ≡ others) × (rest ≡ end)

-- no input has two verdicts
abbrev pub OneVerdict : Type 0
OneVerdict = (bytes : List ℕ) (v w : Result (Header × List ℕ) SnapshotFault) → IsVerdict bytes v → IsVerdict bytes w → v ≡ w
