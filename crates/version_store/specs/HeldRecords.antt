-- The records that a store is opened with.
use Rattle.std.specs.Prelude.{◌≡◌, ℕ, List, Bool, true, false}
use Rattle.digit_pack.specs.Layout.{Shape}
use Rattle.version_store.specs.declared.held_records.HeldRecords.{HeldRecords}
use Rattle.version_store.specs.declared.held_records.HeldRecords.TheVariants.{Bytes, Digits}

-- the bytes of held records, one after another
abbrev pub bytes_held_by : HeldRecords → List ℕ
bytes_held_by (Bytes all) = all.items
bytes_held_by (Digits records) = records.bytes

-- whether records are kept in digits alone
abbrev pub is_in_digits : HeldRecords → Bool
is_in_digits (Bytes all) = false
is_in_digits (Digits records) = true

-- records that are kept in digits have those of a shape
abbrev pub HasShape : Shape → HeldRecords → Type 0
HasShape l (Bytes all) = Unit {0}
HasShape l (Digits records) = records.shape ≡ l
