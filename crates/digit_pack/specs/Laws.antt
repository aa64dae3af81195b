-- Laws of digits.
use Rattle.std.specs.Prelude.{◌≡◌, ◌↔◌, true, slice_set, ℕ, ◌+◌, ◌*◌, ◌/◌, ◌^◌, ◌<◌, ◌≤◌, List, length, All}
use Rattle.matrix_u32.specs.Matrix.{WordMatrix, entry}
use Rattle.lane_kernels.specs.Digit.{digit, split_count}
use Rattle.digit_pack.specs.Slots.{slot_of, is_slot, content_of}
use Rattle.digit_pack.specs.Digits.{digits_of, number_of, decomposed, recomposed, joined}
use Rattle.digit_pack.specs.Layout.{Shape, IsShape, IsLayout, HasWidth, HasRecord, ordinary_side, query_parts_count, IsRecord, FitsRecord, record_digits, record_bytes, digit_matrix, digits_per_record, digit_rows, digit_cols, first_row, column_of, record_at}

-- the digits of a word write the word
abbrev pub SplitJoins : Type 0
SplitJoins = (w word : ℕ) → 0 < w → word < 2 ^ 32 → joined w (digits_of w (split_count w) word) ≡ word

-- the words that a matrix decomposes into are the matrix again
abbrev pub DecomposedRecomposes : Type 0
DecomposedRecomposes = (w : ℕ) (a : WordMatrix) → 0 < w → length a.words ≡ a.rows * a.cols → All (λ word. word < 2 ^ 32) a.words →
    recomposed w (decomposed w a) ≡ a

-- digit t of the word in row k is in row k split_count + t
abbrev pub DecomposedStandsBelow : Type 0
DecomposedStandsBelow = (w : ℕ) (a : WordMatrix) (k t j : ℕ) → t < split_count w → k < a.rows → j < a.cols →
    entry (decomposed w a) (k * split_count w + t) j ≡ digit w (entry a k j) t

-- what `pack` makes of a record is what `unpack` takes and accepts, and gives the record back
pub record PacksAndUnpacks (l : Shape) (bytes : List ℕ) : Type 0 where
  pub count : length (record_digits l bytes) ≡ digits_per_record l
  pub small : All (λ d. d < 2 ^ l.width) (record_digits l bytes)
  pub accepted : FitsRecord l (record_digits l bytes)
  pub same : record_bytes l (record_digits l bytes) ≡ bytes

-- a record's digits are accepted, and give its bytes back
abbrev pub PackUnpacks : Type 0
PackUnpacks = (l : Shape) (bytes : List ℕ) → 0 < l.width → IsRecord l bytes → PacksAndUnpacks l bytes

-- digit d of record i is in its column, d rows below its first row
abbrev pub RecordStandsInItsColumn : Type 0
RecordStandsInItsColumn = (l : Shape) (records : List (List ℕ)) (i d : ℕ) → IsShape l → i < l.count → d < digits_per_record l →
    entry (digit_matrix l records) (first_row l i + d) (column_of l i) ≡ digit l.width (number_of 8 (record_at records i)) d

-- each digit of a record has its place inside the matrix
abbrev pub RecordStandsInside : Type 0
RecordStandsInside = (l : Shape) (i d : ℕ) → IsShape l → i < l.count → d < digits_per_record l →
    (first_row l i + d < digit_rows l) × (column_of l i < digit_cols l)

-- an entry that belongs to no record is 0
abbrev pub UnusedSlotsAreZero : Type 0
UnusedSlotsAreZero = (l : Shape) (records : List (List ℕ)) (r j : ℕ) → r < digit_rows l → j < digit_cols l →
    length records ≤ j * l.groups + r / digits_per_record l → entry (digit_matrix l records) r j ≡ 0

-- row r, column j has a digit of record i
abbrev pub IsPlaceOf : Shape → ℕ → ℕ → ℕ → Type 0
IsPlaceOf l i r j = (j ≡ column_of l i) × (first_row l i ≤ r) × (r < first_row l i + digits_per_record l)

-- with another record i the digit matrix has its digits in its place, and all other entries as
-- before
pub record RecordChange (l : Shape) (records : List (List ℕ)) (i : ℕ) (bytes : List ℕ) : Type 0 where
  pub here : (d : ℕ) → d < digits_per_record l →
      entry (digit_matrix l (slice_set records i bytes)) (first_row l i + d) (column_of l i) ≡ digit l.width (number_of 8 bytes) d
  pub elsewhere : (r j : ℕ) → r < digit_rows l → j < digit_cols l → ¬ IsPlaceOf l i r j →
      entry (digit_matrix l (slice_set records i bytes)) r j ≡ entry (digit_matrix l records) r j

-- a digit matrix with one record replaced differs at the places of this record alone
abbrev pub ReplacedRecordChangesItsPlace : Type 0
ReplacedRecordChangesItsPlace = (l : Shape) (records : List (List ℕ)) (i : ℕ) (bytes : List ℕ) →
    IsShape l → i < l.count → i < length records → RecordChange l records i bytes

-- an ordinary matrix of digits leaves the parts of a query few, so an ordinary layout is judged by
-- its rows alone
abbrev pub OrdinaryPartsAreFew : Type 0
OrdinaryPartsAreFew = (l : Shape) → HasWidth l → HasRecord l → digit_rows l ≤ ordinary_side → query_parts_count l ≤ 4128768

-- a wide layout has no more digits than a wide store
abbrev pub WideStoreHasRoom : Type 0
WideStoreHasRoom = (l : Shape) → IsLayout l → digit_rows l * digit_cols l ≤ 1073741824

-- digits are below 2 to their width
abbrev pub DigitsAreSmall : Type 0
DigitsAreSmall = (w number t : ℕ) → digit w number t < 2 ^ w

-- a slot that a record fills: the slot has room for the record, and two bytes can write the
-- record's length
pub record IsFilledBy (slot bytes : List ℕ) : Type 0 where
  pub fits : length bytes + 2 ≤ length slot
  pub short : length bytes < 2 ^ 16
  pub same : slot ≡ slot_of (length slot) bytes

-- bytes are a slot, and a record is the one in it, exactly when the record fills it
abbrev pub SlotsAreThoseFilled : Type 0
SlotsAreThoseFilled = (slot bytes : List ℕ) → All (λ b. b < 2 ^ 8) slot →
    ((is_slot slot ≡ true) × (content_of slot ≡ bytes)) ↔ IsFilledBy slot bytes
