-- The records of one version, and what is made from them.
use Rattle.std.specs.Prelude.{◌≡◌, ℕ, ◌-◌, ◌*◌, ◌^◌, ◌<◌, ◌≤◌, All, ◌++◌, if◌then◌else◌, List, [], length, replicate, filter, Bool, true, false, slice_index_or}
use Rattle.std.specs.List.{range_with_len, list_all, flat_map}
use Rattle.matrix_u32.specs.Matrix.{WordMatrix, IsWhole, row, product}
use Rattle.seed_expand.specs.Words.{public_rows}
use Rattle.digit_pack.specs.Layout.{Shape, IsLayout, is_wide, records_in, digit_cols}
use Rattle.digit_pack.specs.Held.{records_in_digits}
use Rattle.pir_schemes.specs.declared.scheme.Scheme.TheVariants.{Simple, Double}
use Rattle.pir_schemes.specs.declared.plan.Plan.{Plan}
use Rattle.pir_schemes.specs.Plans.{is_slot_of, records_held, slots, shape_at, digits_at, second_public}
use Rattle.digit_pack.specs.Slots.{is_form, is_slotted}
use Rattle.pir_schemes.specs.Retrievals.{hint_matrix, server_hint}
use Rattle.hint_update.specs.Updates.{AreHintsOf}

-- the records of one version, and their plan
pub record Records : Type 0 where
  pub plan : Plan
  pub records : List (List ℕ)

-- the shape of the records of one version
abbrev pub version_shape : Records → Shape
version_shape e = shape_at e.plan (length e.records)

-- a record before its bytes are given: in forms of slots one of no bytes, else all zeros
abbrev pub blank : Plan → List ℕ
blank p = if is_slotted p.form then [] else replicate p.record_len 0

-- records with blanks after them, so many in all
abbrev pub grown : Plan → ℕ → List (List ℕ) → List (List ℕ)
grown p n records = records ++ replicate (n - length records) (blank p)

-- bytes that records have in the digits, with the first public matrix, the digits and the SimplePIR
-- hint that are made from the records; the public matrix may have more rows than the digits have
-- columns
pub record IsMade (p : Plan) (l : Shape) (bytes : List ℕ) (a1 digits hint : WordMatrix) : Type 0 where
  pub form : is_form p.form p.record_len ≡ true
  pub layout : IsLayout l
  pub sizes : shape_at p l.count ≡ l
  pub low : 1 ≤ p.dimension
  pub high : p.dimension ≤ 1024
  pub count : length bytes ≡ l.count * l.record_len
  pub good : list_all (is_slot_of p) (records_in l bytes) ≡ true
  pub slots_are : slots p (records_held p l.count bytes) ≡ records_in l bytes
  pub public_is : a1 ≡ public_rows p.seed 0 0 a1.rows p.dimension
  pub enough : digit_cols l ≤ a1.rows
  pub digits_are : digits ≡ digits_at p (records_held p l.count bytes)
  pub hint_is : hint ≡ hint_matrix Simple p (records_held p l.count bytes)

-- the bytes of records in digits, one after another: an ordinary store keeps them, and a wide one
-- has them in its digit matrix alone
unfoldable pub bytes_held : Plan → Shape → List ℕ → WordMatrix → List ℕ
bytes_held p l kept digits = if is_wide p.form then flat_map (λ bytes. bytes) (records_in_digits l digits) else kept

-- the bytes that a layer keeps, none in a wide form, with what is made from the records that it
-- holds
pub record IsLayer (p : Plan) (l : Shape) (kept : List ℕ) (a1 digits hint : WordMatrix) : Type 0 where
  pub none : is_wide p.form ≡ true → kept ≡ []
  pub small : All (λ b. b < 2 ^ 8) (bytes_held p l kept digits)
  pub made : IsMade p l (bytes_held p l kept digits) a1 digits hint

-- a version's second public matrix, and both hints of DoublePIR that are made from its records
pub record IsMadeTwice (e : Records) (a2 server client : WordMatrix) : Type 0 where
  pub second_is : a2 ≡ second_public (version_shape e) e.plan.dimension e.plan.seed
  pub server_is : server ≡ server_hint e.plan e.records
  pub client_is : client ≡ hint_matrix Double e.plan e.records

-- ---- rows that change
-- whether row r is marked
abbrev pub is_marked : List Bool → ℕ → Bool
is_marked marks r = slice_index_or marks r false

-- the rows that are marked, ascending
abbrev pub marked_rows : List Bool → List ℕ
marked_rows marks = filter (is_marked marks) (range_with_len 0 (length marks))

-- rows that differ are marked, and marked rows stay marked; no other row is marked
pub record MarksChanges (old new : WordMatrix) (before after : List Bool) : Type 0 where
  pub count : length after ≡ length before
  pub kept : (r : ℕ) → r < old.rows → is_marked after r ≡ false → (is_marked before r ≡ false) × (row new r ≡ row old r)
  pub only : (r : ℕ) → r < old.rows → is_marked before r ≡ false → row new r ≡ row old r → is_marked after r ≡ false

-- two matrices of digits that differ in marked rows alone, and the hint of the new one
pub record IsRowChange (hint a1 old new : WordMatrix) (marks : List Bool) : Type 0 where
  pub old_whole : IsWhole old
  pub new_whole : IsWhole new
  pub rows : old.rows ≡ new.rows
  pub cols : old.cols ≡ new.cols
  pub inner : new.cols ≡ a1.rows
  pub count : length marks ≡ new.rows
  pub hint_is : hint ≡ product new a1
  pub kept : (r : ℕ) → r < new.rows → is_marked marks r ≡ false → row new r ≡ row old r

-- for every two such matrices: if both hints of DoublePIR were made from the old one, they are now
-- made from the new one
abbrev pub FollowsRows : ℕ → WordMatrix → WordMatrix → WordMatrix → WordMatrix → WordMatrix → WordMatrix → List Bool → Type 0
FollowsRows w hint a2 server_before server_after client_before client_after marks =
    (old new a1 : WordMatrix) → IsRowChange hint a1 old new marks →
    AreHintsOf w old a1 a2 server_before client_before → AreHintsOf w new a1 a2 server_after client_after
