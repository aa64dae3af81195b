-- The bytes of a publication: its version, and what it changed in the order of the places.
use Rattle.std.specs.Prelude.{◌≡◌, ◌⊎◌, ◌<◌, ◌≤◌, ◌+◌, ◌^◌, ℕ, List, [], ◌∷◌, ◌++◌, length}
use Rattle.byteorder.specs.Endian.{little_bytes}
use Rattle.publication_log.specs.declared.changes.BodyFault.{BodyFault}
use Rattle.publication_log.specs.declared.changes.BodyFault.TheVariants.{Short, NotAscending}

-- the place of a record, and the bytes that it has from then on
pub record Placed : Type 0 where
  pub place : ℕ
  pub bytes : List ℕ

-- a version, and what differs in it from the version before
pub record Published : Type 0 where
  pub version : ℕ
  pub changes : List Placed

-- the n bytes of a number, the lowest first
unfoldable pub log_number_bytes : ℕ → ℕ → List ℕ
log_number_bytes n x = little_bytes n x

-- the place in four bytes, the length in two, and the bytes
abbrev pub placed_bytes : Placed → List ℕ
placed_bytes c = log_number_bytes 4 c.place ++ (log_number_bytes 2 (length c.bytes) ++ c.bytes)

-- the bytes of changes, one after another
abbrev pub changes_bytes : List Placed → List ℕ
changes_bytes [] = []
changes_bytes (c ∷ cs) = placed_bytes c ++ changes_bytes cs

-- the version in eight bytes, and the changes
abbrev pub body_bytes : Published → List ℕ
body_bytes p = log_number_bytes 8 p.version ++ changes_bytes p.changes

-- a place and a length that have an encoding
pub record IsPlaced (c : Placed) : Type 0 where
  pub place : c.place < 2 ^ 32
  pub len : length c.bytes < 2 ^ 16

-- changes of which each has a place above all before it, the first at least this place
abbrev pub AreChanges : ℕ → List Placed → Type 0
AreChanges low [] = Unit {0}
AreChanges low (c ∷ cs) = IsPlaced c × (low ≤ c.place) × AreChanges (c.place + 1) cs

-- the lowest place that a change after these may have
abbrev pub next_place : ℕ → List Placed → ℕ
next_place low [] = low
next_place low (c ∷ cs) = next_place (c.place + 1) cs

-- a publication that has an encoding, of fewer than 2^32 bytes
pub record IsPublished (p : Published) : Type 0 where
  pub version : p.version < 2 ^ 64
  pub changes : AreChanges 0 p.changes
  pub len : length (body_bytes p) < 2 ^ 32

-- bytes at whose start no whole change is
abbrev pub IsCutShort : List ℕ → Type 0
IsCutShort rest = (c : Placed) (more : List ℕ) → IsPlaced c → rest ≡ placed_bytes c ++ more → ⊥

-- what is wrong with bytes that are no changes, after good changes
abbrev pub HasChangesFault : BodyFault → List ℕ → Type 0
HasChangesFault Short bytes = (cs : List Placed) × (rest : List ℕ) × AreChanges 0 cs × (bytes ≡ changes_bytes cs ++ rest) × (0 < length rest) × IsCutShort rest
HasChangesFault NotAscending bytes = (cs : List Placed) × (c : Placed) × (rest : List ℕ) × AreChanges 0 cs × (bytes ≡ changes_bytes cs ++ (placed_bytes c ++ rest)) × IsPlaced c × (c.place < next_place 0 cs)

-- a version, and bytes with that fault after it
abbrev pub IsFaultyAfterVersion : BodyFault → List ℕ → Type 0
IsFaultyAfterVersion fault body = (version : ℕ) × (rest : List ℕ) × (version < 2 ^ 64) × (body ≡ log_number_bytes 8 version ++ rest) × HasChangesFault fault rest

-- the first fault of bytes that are no publication's
abbrev pub HasBodyFault : BodyFault → List ℕ → Type 0
HasBodyFault Short body = (length body < 8) ⊎ IsFaultyAfterVersion Short body
HasBodyFault NotAscending body = IsFaultyAfterVersion NotAscending body
