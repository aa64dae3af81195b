-- Where the digits of records are.
use Rattle.std.specs.Prelude.{◌≡◌, ◌⊎◌, ℕ, ◌+◌, ◌-◌, ◌*◌, ◌/◌, ◌%◌, ◌^◌, ◌<◌, ◌≤◌, if◌then◌else◌, List, [], length, take, drop, slice_index_or, All, Bool, nat_le, nat_lt, ◌&&◌, ◌||◌}
use Rattle.digit_pack.specs.declared.layout.LayoutError.{LayoutError}
use Rattle.digit_pack.specs.declared.layout.LayoutError.TheVariants.{BadWidth, BadRecord, BadGroups, BadCount}
use Rattle.matrix_u32.specs.Sum.{list_of}
use Rattle.matrix_u32.specs.Matrix.{WordMatrix, matrix_of}
use Rattle.lane_kernels.specs.Digit.{digit}
use Rattle.digit_pack.specs.Digits.{number_of, digits_of}

-- a matrix of at most `side` rows and as many columns; digits of `width` bits; records of
-- `record_len` bytes, `groups` of them to a column; `count` records
pub record Shape : Type 0 where
  pub side : ℕ
  pub width : ℕ
  pub record_len : ℕ
  pub groups : ℕ
  pub count : ℕ

-- the most rows and columns of an ordinary digit matrix
abbrev pub ordinary_side : ℕ
ordinary_side = 4096

-- the most rows and columns of a wide digit matrix
abbrev pub wide_side : ℕ
wide_side = 32768

-- the forms whose digit matrix is a wide one
abbrev pub is_wide : ℕ → Bool
is_wide form = nat_lt 128 form

-- the most rows and columns of a form's digit matrix
abbrev pub side_of : ℕ → ℕ
side_of form = if is_wide form then wide_side else ordinary_side

-- the shape of these five sizes
abbrev pub shape_within : ℕ → ℕ → ℕ → ℕ → ℕ → Shape
shape_within side width record_len groups count =
    record { side = side; width = width; record_len = record_len; groups = groups; count = count }

-- the ordinary shape of these four sizes
abbrev pub shape : ℕ → ℕ → ℕ → ℕ → Shape
shape width record_len groups count = shape_within ordinary_side width record_len groups count

-- the shape of these four sizes in a form
abbrev pub shape_in : ℕ → ℕ → ℕ → ℕ → ℕ → Shape
shape_in form width record_len groups count =
    record { side = side_of form; width = width; record_len = record_len; groups = groups; count = count }

-- how many digits a record has: 8 bits a byte, divided by the width, rounded up
abbrev pub digits_per_record : Shape → ℕ
digits_per_record l = (8 * l.record_len + l.width - 1) / l.width

-- how many rows the digit matrix has
abbrev pub digit_rows : Shape → ℕ
digit_rows l = l.groups * digits_per_record l

-- how many columns: the records divided by the groups, rounded up
abbrev pub digit_cols : Shape → ℕ
digit_cols l = (l.count + l.groups - 1) / l.groups

-- the column that record i is in
abbrev pub column_of : Shape → ℕ → ℕ
column_of l i = i / l.groups

-- the row in which record i begins
abbrev pub first_row : Shape → ℕ → ℕ
first_row l i = i % l.groups * digits_per_record l

-- the bytes of record i; none if there is no such record
abbrev pub record_at : List (List ℕ) → ℕ → List ℕ
record_at records i = slice_index_or records i []

-- the records that bytes encode one after another
abbrev pub records_in : Shape → List ℕ → List (List ℕ)
records_in l bytes = list_of l.count (λ i. take l.record_len (drop (i * l.record_len) bytes))

-- the digits of a record's number, whose bytes are its digits of 8 bits
abbrev pub record_digits : Shape → List ℕ → List ℕ
record_digits l bytes = digits_of l.width (digits_per_record l) (number_of 8 bytes)

-- the bytes of the number that digits write
abbrev pub record_bytes : Shape → List ℕ → List ℕ
record_bytes l digits = digits_of 8 l.record_len (number_of l.width digits)

-- the digit in row r, column j: digit r % digits_per_record of the record in place r /
-- digits_per_record of the column, record j * groups + r / digits_per_record
abbrev pub digit_at : Shape → List (List ℕ) → ℕ → ℕ → ℕ
digit_at l records r j =
    digit l.width (number_of 8 (record_at records (j * l.groups + r / digits_per_record l))) (r % digits_per_record l)

-- the digit matrix of records
abbrev pub digit_matrix : Shape → List (List ℕ) → WordMatrix
digit_matrix l records = matrix_of (digit_rows l) (digit_cols l) (digit_at l records)

-- a width and sizes as `Layout::new` accepts them, as far as the laws need them
pub record IsShape (l : Shape) : Type 0 where
  pub width : 0 < l.width
  pub record_len : 0 < l.record_len
  pub groups : 0 < l.groups
  pub small : l.width < 32

-- bytes of a record of a shape: as many as it says
pub record IsRecord (l : Shape) (bytes : List ℕ) : Type 0 where
  pub len : length bytes ≡ l.record_len
  pub each : All (λ b. b < 2 ^ 8) bytes

-- what `Layout::of_form` accepts: digits of 6 to 10 bits
abbrev pub HasWidth : Shape → Type 0
HasWidth l = (6 ≤ l.width) × (l.width ≤ 10)

-- in a wide matrix of at most 9 bits: an answer's noise is a sum over a row, and over so many
-- columns it would pass half of delta with digits of 10 bits
abbrev pub HasRoomForNoise : Shape → Type 0
HasRoomForNoise l = (l.side ≤ ordinary_side) ⊎ (l.width ≤ 9)

-- records of 1 to 256 bytes
abbrev pub HasRecord : Shape → Type 0
HasRecord l = (1 ≤ l.record_len) × (l.record_len ≤ 256)

-- how many words the parts of a query have: for each digit of a record one word for each row
abbrev pub query_parts_count : Shape → ℕ
query_parts_count l = digits_per_record l * digit_rows l

-- a record or more to a column, of as many digits as the side has at most, and as many words as a
-- frame has room for
abbrev pub HasGroups : Shape → Type 0
HasGroups l = (1 ≤ l.groups) × (digit_rows l ≤ l.side) × (query_parts_count l ≤ 4128768)

-- a record or more, in as many columns as the side has at most
abbrev pub HasCount : Shape → Type 0
HasCount l = (1 ≤ l.count) × (digit_cols l ≤ l.side)

-- a shape within every limit
pub record IsLayout (l : Shape) : Type 0 where
  pub side : l.side ≤ wide_side
  pub width : HasWidth l
  pub noise : HasRoomForNoise l
  pub record_len : HasRecord l
  pub groups : HasGroups l
  pub count : HasCount l

-- whether a shape is within every limit: the side; digits of 6 to 10 bits, or of 9 at most if it is
-- wide; records of 1 to 256 bytes; a group or more, in rows that the side has room for, and with so
-- few words of query parts that a frame has room for them; a record or more, in columns that the
-- side has room for
unfoldable pub is_layout : Shape → Bool
is_layout l =
    nat_le l.side wide_side
    && ((nat_le 6 l.width && nat_le l.width 10)
    && ((nat_le l.side ordinary_side || nat_le l.width 9)
    && ((nat_le 1 l.record_len && nat_le l.record_len 256)
    && ((nat_le 1 l.groups && (nat_le (digit_rows l) l.side && nat_le (query_parts_count l) 4128768))
    && (nat_le 1 l.count && nat_le (digit_cols l) l.side)))))

-- the first limit that a shape breaks
abbrev pub IsLayoutFault : Shape → LayoutError → Type 0
IsLayoutFault l BadWidth = ¬ (HasWidth l × HasRoomForNoise l)
IsLayoutFault l BadRecord = (HasWidth l × HasRoomForNoise l) × ¬ HasRecord l
IsLayoutFault l BadGroups = (HasWidth l × HasRoomForNoise l) × HasRecord l × ¬ HasGroups l
IsLayoutFault l BadCount = (HasWidth l × HasRoomForNoise l) × HasRecord l × HasGroups l × ¬ HasCount l

-- no bit of the number that the digits write is set past the record's last byte
abbrev pub FitsRecord : Shape → List ℕ → Type 0
FitsRecord l digits = number_of l.width digits < 2 ^ (8 * l.record_len)
