-- The records that a digit matrix holds.
use Rattle.std.specs.Prelude.{◌≡◌, ℕ, ◌+◌, ◌^◌, ◌<◌, List, All, length}
use Rattle.matrix_u32.specs.Sum.{list_of}
use Rattle.matrix_u32.specs.Matrix.{WordMatrix, entry}
use Rattle.digit_pack.specs.Layout.{Shape, IsShape, IsRecord, FitsRecord, digit_matrix, digits_per_record, first_row, column_of, record_at, record_bytes}

-- the digits in the place of record i, from its first row down
abbrev pub digits_in_place : Shape → WordMatrix → ℕ → List ℕ
digits_in_place l m i = list_of (digits_per_record l) (λ d. entry m (first_row l i + d) (column_of l i))

-- the bytes of record i in a digit matrix
abbrev pub record_in_digits : Shape → WordMatrix → ℕ → List ℕ
record_in_digits l m i = record_bytes l (digits_in_place l m i)

-- the records that a digit matrix holds
abbrev pub records_in_digits : Shape → WordMatrix → List (List ℕ)
records_in_digits l m = list_of l.count (record_in_digits l m)

-- the digits in the place of record i are those of some record
pub record HoldsRecord (l : Shape) (m : WordMatrix) (i : ℕ) : Type 0 where
  pub small : All (λ d. d < 2 ^ l.width) (digits_in_place l m i)
  pub fits : FitsRecord l (digits_in_place l m i)

-- as many records as the shape has, each of its length
pub record AreRecords (l : Shape) (records : List (List ℕ)) : Type 0 where
  pub count : length records ≡ l.count
  pub each : (i : ℕ) → i < l.count → IsRecord l (record_at records i)

-- the digit matrix of records holds these records
pub record HoldsRecords (l : Shape) (records : List (List ℕ)) : Type 0 where
  pub each : (i : ℕ) → i < l.count → HoldsRecord l (digit_matrix l records) i
  pub same : records_in_digits l (digit_matrix l records) ≡ records

-- a digit matrix gives back the records that it was made of
abbrev pub DigitsHoldTheirRecords : Type 0
DigitsHoldTheirRecords = (l : Shape) (records : List (List ℕ)) → IsShape l → AreRecords l records → HoldsRecords l records
