-- The bytes of a snapshot: a header of 91 bytes, or 92 in a wide form; the records; and the digest
-- of both.
use Rattle.std.specs.Prelude.{◌≡◌, ◌⊎◌, ◌<◌, ◌≤◌, ◌+◌, ◌*◌, ◌^◌, ◌==◌, ℕ, List, [], ◌∷◌, ◌++◌, length, Bool, true, if◌then◌else◌, codes}
use Rattle.std.specs.List.{list_all}
use Rattle.byteorder.specs.Endian.{little_bytes}
use Rattle.sha2.specs.Sha256.{sha256}
use Rattle.digit_pack.specs.Layout.{Shape, is_wide, shape_in, IsLayout, records_in}
use Rattle.digit_pack.specs.Slots.{is_form, is_slotted, is_slot}
use Rattle.snapshot_file.specs.declared.snapshot.Header.{Header}
use Rattle.snapshot_file.specs.declared.snapshot.Snapshot.{Snapshot}

-- the n bytes of a number, the lowest first
unfoldable pub snapshot_number : ℕ → ℕ → List ℕ
snapshot_number n x = little_bytes n x

-- what every snapshot of a form begins with, in ASCII
unfoldable pub magic : ℕ → List ℕ
magic form = if form == 1 then codes "PIRSNAP1" else (if form == 2 then codes "PIRSNAP2" else codes "PIRWIDE1")

-- after its magic, a snapshot of a wide form names the form in a byte
unfoldable pub form_bytes : ℕ → List ℕ
form_bytes form = if is_wide form then form ∷ [] else []

-- the wide forms: in 129 all records have one length, in 130 each has its own and is in a slot
abbrev pub IsWideForm : ℕ → Type 0
IsWideForm form = (form ≡ 129) ⊎ (form ≡ 130)

-- the forms that there are: 1 and 2 likewise, and the wide ones
abbrev pub IsForm : ℕ → Type 0
IsForm form = (form ≡ 1) ⊎ (form ≡ 2) ⊎ IsWideForm form

-- what a snapshot begins with
abbrev pub IsMagic : List ℕ → Type 0
IsMagic bytes = (bytes ≡ magic 1) ⊎ (bytes ≡ magic 2) ⊎ (bytes ≡ magic 129)

-- how many bytes the fields of a form have, from the magic on
abbrev pub fields_len : ℕ → ℕ
fields_len form = length (form_bytes form) + 83

-- the fields of a snapshot but its records
abbrev pub header_of : Snapshot → Header
header_of s = record {
  form = s.form;
  width = s.width;
  record_len = s.record_len;
  groups = s.groups;
  count = s.count;
  dimension = s.dimension;
  version = s.version;
  seed = s.seed;
  publisher = s.publisher;
}

-- the shape of a snapshot's records
abbrev pub shape_of : Header → Shape
shape_of h = shape_in h.form h.width h.record_len h.groups h.count

-- a header for another number of records
abbrev pub with_count : ℕ → Header → Header
with_count n h = record h { count = n }

-- how many bytes the records of a snapshot have together
abbrev pub records_len : Header → ℕ
records_len h = h.count * h.record_len

-- the magic, a wide form, the fields in their order, each number as its bytes
unfoldable pub header_bytes : Header → List ℕ
header_bytes h =
    magic h.form
    ++ form_bytes h.form
    ++ (h.width ∷ [])
    ++ snapshot_number 2 h.record_len
    ++ snapshot_number 2 h.groups
    ++ snapshot_number 4 h.count
    ++ snapshot_number 2 h.dimension
    ++ snapshot_number 8 h.version
    ++ h.seed
    ++ h.publisher

-- the bytes of a snapshot that its digest is made of: the header and the records
abbrev pub hashed_bytes : Header → List ℕ → List ℕ
hashed_bytes h records = header_bytes h ++ records

-- a whole file: header, records, and their digest by SHA-256 (FIPS 180-4)
abbrev pub snapshot_bytes : Header → List ℕ → List ℕ
snapshot_bytes h records = hashed_bytes h records ++ sha256 (hashed_bytes h records)

-- the fields are numbers of their types
pub record IsHeader (h : Header) : Type 0 where
  pub form : IsForm h.form
  pub width : h.width < 2 ^ 8
  pub record_len : h.record_len < 2 ^ 16
  pub groups : h.groups < 2 ^ 16
  pub count : h.count < 2 ^ 32
  pub dimension : h.dimension < 2 ^ 16
  pub version : h.version < 2 ^ 64
  pub seed : length h.seed ≡ 32
  pub publisher : length h.publisher ≡ 32

-- a layout within its limits, slots of two bytes or more, a dimension of 1 to 1024, a version from
-- 1 on
pub record IsAccepted (h : Header) : Type 0 where
  pub form : is_form h.form h.record_len ≡ true
  pub layout : IsLayout (shape_of h)
  pub dimension : (1 ≤ h.dimension) × (h.dimension ≤ 1024)
  pub version : 1 ≤ h.version

-- a header that a reader takes, and as many bytes as its records have
pub record IsFile (h : Header) (records : List ℕ) : Type 0 where
  pub header : IsHeader h
  pub accepted : IsAccepted h
  pub len : length records ≡ records_len h

-- in forms of slots the bytes of each record are a slot
unfoldable pub has_slots : Header → List ℕ → Bool
has_slots h records = if is_slotted h.form then list_all is_slot (records_in (shape_of h) records) else true

-- a file whose slots are good
pub record IsSnapshot (h : Header) (records : List ℕ) : Type 0 where
  pub file : IsFile h records
  pub slots : has_slots h records ≡ true
