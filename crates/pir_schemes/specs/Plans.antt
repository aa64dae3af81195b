-- What stays the same in every version of some records, and how a version's records are held in
-- digits.
use Rattle.std.specs.Prelude.{◌≡◌, ◌≤◌, ◌<◌, ◌^◌, ◌*◌, ◌+◌, ℕ, List, All, length, map, Bool, true, Option, Some, None, ◌==◌, ◌&&◌, ◌||◌, nat_lt, nat_le, if◌then◌else◌}
use Rattle.matrix_u32.specs.Matrix.{WordMatrix}
use Rattle.seed_expand.specs.Words.{public_rows}
use Rattle.digit_pack.specs.Digits.{digits_of, number_of}
use Rattle.pir_schemes.specs.declared.plan.Plan.{Plan}
use Rattle.digit_pack.specs.Layout.{Shape, IsLayout, is_wide, shape_in, digit_rows, digit_cols, digit_matrix, records_in}
use Rattle.digit_pack.specs.Slots.{is_form, is_slotted, slot_of, is_slot, content_of}

-- the shape of a version with so many records
abbrev pub shape_at : Plan → ℕ → Shape
shape_at p count = shape_in p.form p.width p.record_len p.groups count

-- a plan and a count of records within every limit
pub record IsPlan (p : Plan) (count : ℕ) : Type 0 where
  pub form : is_form p.form p.record_len ≡ true
  pub layout : IsLayout (shape_at p count)
  pub low : 1 ≤ p.dimension
  pub high : p.dimension ≤ 1024

-- the profile that a server of this plan speaks
abbrev pub profile_of : Plan → ℕ
profile_of p = p.form

-- the profile that a client asks for in its greeting, of an ordinary store or of a wide one: both
-- forms are known to it
abbrev pub client_profile : Bool → ℕ
client_profile wide = if wide then 130 else 2

-- whether a server of this plan accepts a greeting in a profile: a client of profile 1 knows form 1
-- alone, and one of profile 129 form 129
abbrev pub accepts_profile : Plan → ℕ → Bool
accepts_profile p profile =
    if is_wide p.form
    then ((profile == 130) || ((profile == 129) && (p.form == 129)))
    else ((profile == 2) || ((profile == 1) && (p.form == 1)))

-- whether bytes can be a record: in forms of slots at most as many as a slot has room for beside
-- the two bytes of their number, in the others exactly as many as a record has
unfoldable pub fits : Plan → List ℕ → Bool
fits p bytes = if is_slotted p.form then nat_le (length bytes + 2) p.record_len else length bytes == p.record_len

-- bytes that can be a record of a plan
pub record IsRecordOf (p : Plan) (bytes : List ℕ) : Type 0 where
  pub fits : fits p bytes ≡ true
  pub each : All (λ b. b < 2 ^ 8) bytes

-- the bytes that stand for a record in the digits: its slot in forms of slots, else its own
unfoldable pub slot : Plan → List ℕ → List ℕ
slot p bytes = if is_slotted p.form then slot_of p.record_len bytes else bytes

-- whether bytes may stand for a record in the digits: in forms of slots whether they are a slot,
-- and in the others always, however many they are
unfoldable pub is_slot_of : Plan → List ℕ → Bool
is_slot_of p bytes = if is_slotted p.form then is_slot bytes else true

-- the record for which bytes stand in the digits
unfoldable pub content : Plan → List ℕ → List ℕ
content p bytes = if is_slotted p.form then content_of bytes else bytes

-- the bytes that records have in the digits, a list for each record
abbrev pub slots : Plan → List (List ℕ) → List (List ℕ)
slots p records = map (slot p) records

-- the records that have these bytes in the digits, one after another
abbrev pub records_held : Plan → ℕ → List ℕ → List (List ℕ)
records_held p count bytes = map (content p) (records_in (shape_at p count) bytes)

-- the digit matrix of a version
abbrev pub digits_at : Plan → List (List ℕ) → WordMatrix
digits_at p records = digit_matrix (shape_at p (length records)) (slots p records)

-- the first public matrix: a row for each column of digits, n columns, from stream 0 of the public
-- seed
abbrev pub first_public : Shape → ℕ → List ℕ → WordMatrix
first_public l n public = public_rows public 0 0 (digit_cols l) n

-- the second public matrix: a row for each row of digits, n columns, from stream 1
abbrev pub second_public : Shape → ℕ → List ℕ → WordMatrix
second_public l n public = public_rows public 1 0 (digit_rows l) n

-- the bytes that an answer's digits write
abbrev pub bytes_written : Plan → List ℕ → List ℕ
bytes_written p digits = digits_of 8 p.record_len (number_of p.width digits)

-- the record that an answer's digits write; none if they set a bit past its last byte, or their
-- bytes are no record's
unfoldable pub record_of : Plan → List ℕ → Option (List ℕ)
record_of p digits =
    if nat_lt (number_of p.width digits) (2 ^ (8 * p.record_len)) && is_slot_of p (bytes_written p digits)
    then Some (content p (bytes_written p digits)) else None
