-- Slots: a record of its own length in a fixed number of bytes.
use Rattle.std.specs.Prelude.{ℕ, ◌+◌, ◌-◌, ◌++◌, List, length, take, drop, replicate, Bool, nat_le, nat_eq, ◌==◌, ◌&&◌, ◌||◌}
use Rattle.std.specs.List.{list_all}
use Rattle.std.specs.Int.{w16, to_le_bytes, from_le_bytes}

-- the forms in which each record has a length of its own, and its bytes are those of its slot
unfoldable pub is_slotted : ℕ → Bool
is_slotted form = (form == 2) || (form == 130)

-- A form that there is, for records of so many bytes. In forms 1 and 129 records have these bytes
-- and no others; in forms 2 and 130 these are the bytes of a slot, which has two at least. The
-- digit matrix of forms 129 and 130 is a wide one.
unfoldable pub is_form : ℕ → ℕ → Bool
is_form form record_len = (form == 1) || ((form == 129) || (is_slotted form && nat_le 2 record_len))

-- the slot of so many bytes that holds a record: the record's length in two bytes, the lower one
-- first; the record; zeros
abbrev pub slot_of : ℕ → List ℕ → List ℕ
slot_of len bytes = to_le_bytes w16 (length bytes) ++ (bytes ++ replicate (len - (length bytes + 2)) 0)

-- whether bytes are the slot of a record: the length that they begin with leaves room for it, and
-- zeros follow
unfoldable pub is_slot : List ℕ → Bool
is_slot slot =
    nat_le (from_le_bytes w16 (take 2 slot) + 2) (length slot)
    && list_all (nat_eq 0) (drop (from_le_bytes w16 (take 2 slot) + 2) slot)

-- the record in a slot
abbrev pub content_of : List ℕ → List ℕ
content_of slot = take (from_le_bytes w16 (take 2 slot)) (drop 2 slot)
