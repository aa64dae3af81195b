-- Changes, encoded in bytes, one entry after another.
use Rattle.std.specs.Prelude.{◌≡◌, ℕ, ◌+◌, ◌*◌, ◌/◌, ◌%◌, ◌<◌, List, length, take, drop}
use Rattle.byteorder.specs.Endian.{little_number}
use Rattle.matrix_u32.specs.Sum.{list_of}
use Rattle.digit_pack.specs.Layout.{Shape}
use Rattle.hint_changes.specs.Changes.{ChangedRecord}

-- how many bytes an entry has: a record's number in four, and its old and its new bytes
abbrev pub entry_len : ℕ → ℕ
entry_len len = 4 + (len + len)

-- the change in entry k
abbrev pub change_in : ℕ → List ℕ → ℕ → ChangedRecord
change_in len bytes k = record {
  index = little_number 4 (drop (k * entry_len len) bytes);
  old = take len (drop (k * entry_len len + 4) bytes);
  new = take len (drop (k * entry_len len + (4 + len)) bytes);
}

-- how many entries there are
abbrev pub entry_count : ℕ → List ℕ → ℕ
entry_count len bytes = length bytes / entry_len len

-- the changes in all entries
abbrev pub changes_in : ℕ → List ℕ → List ChangedRecord
changes_in len bytes = list_of (entry_count len bytes) (change_in len bytes)

-- the number of the record in entry k
abbrev pub index_in : ℕ → List ℕ → ℕ → ℕ
index_in len bytes k = (change_in len bytes k).index

-- whole entries, ascending, of records that there are
pub record AreEntries (l : Shape) (bytes : List ℕ) : Type 0 where
  pub whole : length bytes % entry_len l.record_len ≡ 0
  pub inside : (k : ℕ) → k < entry_count l.record_len bytes → index_in l.record_len bytes k < l.count
  pub ascending : (k : ℕ) → k + 1 < entry_count l.record_len bytes → index_in l.record_len bytes k < index_in l.record_len bytes (k + 1)
