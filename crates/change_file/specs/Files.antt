-- The bytes of a file of changes, by which a hint that is kept in another file is moved on.
use Rattle.std.specs.Prelude.{◌≡◌, ◌≤◌, ◌<◌, ◌+◌, ◌-◌, ◌^◌, ◌==◌, ◌&&◌, nat_le, if◌then◌else◌, Bool, ℕ, zero, suc, List, [], ◌∷◌, ◌++◌, length, take, drop, Option, Some, None, codes}
use Rattle.std.specs.Str.{bytes_eq}
use Rattle.sha2.specs.Sha256.{sha256}
use Rattle.frame_codec.specs.Numbers.{number_bytes, number_in}
use Rattle.change_file.specs.declared.blocks.Block.{Block}
use Rattle.change_file.specs.declared.blocks.WholeBlock.{WholeBlock}
use Rattle.change_file.specs.declared.ends.ChangesEnd.{ChangesEnd}

-- a move of a hint from one version to another, which has so many records, by the entries of the
-- records that changed
pub record HintMove : Type 0 where
  pub since : ℕ
  pub version : ℕ
  pub count : ℕ
  pub entries : List ℕ

-- the move of a block
abbrev pub move_of : Block → HintMove
move_of b = record { since = b.since; version = b.version; count = b.count; entries = b.entries.now }

-- what a file of changes begins with, in ASCII: its kind, and its layout's number
unfoldable pub change_magic : List ℕ
change_magic = codes "PIRMOVE1"

-- the magic, and the digest of the head of the hint's file, to which this ties the changes
abbrev pub tie_bytes : List ℕ → List ℕ
tie_bytes digest = change_magic ++ digest

-- the link before the first block: the digest by SHA-256 (FIPS 180-4) of all that
abbrev pub first_block_link : List ℕ → List ℕ
first_block_link digest = sha256 (tie_bytes digest)

-- the head, 72 bytes
abbrev pub changes_head : List ℕ → List ℕ
changes_head digest = tie_bytes digest ++ first_block_link digest

-- a block without its link: both versions, the count, the length of the entries, and the entries
unfoldable pub block_body : HintMove → List ℕ
block_body m = number_bytes 8 m.since ++ number_bytes 8 m.version ++ number_bytes 4 m.count ++ number_bytes 4 (length m.entries) ++ m.entries

-- the link after a block, by the link before it
abbrev pub next_block_link : List ℕ → HintMove → List ℕ
next_block_link link m = sha256 (link ++ block_body m)

-- a block
abbrev pub block_bytes : List ℕ → HintMove → List ℕ
block_bytes link m = block_body m ++ next_block_link link m

-- how many bytes a block has
abbrev pub block_len : HintMove → ℕ
block_len m = length m.entries + 56

-- blocks one after another, by the link before the first
abbrev pub blocks_bytes : List ℕ → List HintMove → List ℕ
blocks_bytes link [] = []
blocks_bytes link (m ∷ ms) = block_bytes link m ++ blocks_bytes (next_block_link link m) ms

-- a file of changes
abbrev pub file_bytes : List ℕ → List HintMove → List ℕ
file_bytes digest ms = changes_head digest ++ blocks_bytes (first_block_link digest) ms

-- the link after blocks
abbrev pub last_block_link : List ℕ → List HintMove → List ℕ
last_block_link link [] = link
last_block_link link (m ∷ ms) = last_block_link (next_block_link link m) ms

-- the version after moves
abbrev pub last_version : ℕ → List HintMove → ℕ
last_version version [] = version
last_version version (m ∷ ms) = last_version m.version ms

-- how many records the version after moves has
abbrev pub last_count : ℕ → List HintMove → ℕ
last_count count [] = count
last_count count (m ∷ ms) = last_count m.count ms

-- a move whose numbers a block has room for
pub record IsMove (m : HintMove) : Type 0 where
  pub since : m.since < 2 ^ 64
  pub version : m.version < 2 ^ 64
  pub count : m.count < 2 ^ 32
  pub len : length m.entries < 2 ^ 32

-- moves that lead on from a version, each from that to which the one before it leads
abbrev pub AreMoves : ℕ → List HintMove → Type 0
AreMoves version [] = Unit {0}
AreMoves version (m ∷ ms) = IsMove m × (m.since ≡ version) × AreMoves m.version ms

-- whether bytes begin with others
abbrev pub is_prefix : List ℕ → List ℕ → Bool
is_prefix first bytes = bytes_eq (take (length first) bytes) first

-- the move that bytes name, if they begin with a block
unfoldable pub move_at : List ℕ → HintMove
move_at bytes = record {
  since = number_in 8 bytes;
  version = number_in 8 (drop 8 bytes);
  count = number_in 4 (drop 16 bytes);
  entries = take (number_in 4 (drop 20 bytes)) (drop 24 bytes);
}

-- the move whose block bytes begin with: a whole one, with the link that follows this one, and
-- since this version
unfoldable pub first_move : List ℕ → ℕ → List ℕ → Option HintMove
first_move link version bytes =
    if is_prefix (block_bytes link (move_at bytes)) bytes && ((move_at bytes).since == version) then Some (move_at bytes) else None

-- a move if there is one, and those after it
abbrev pub with_more : Option HintMove → (HintMove → List HintMove) → List HintMove
with_more None more = []
with_more (Some m) more = m ∷ more m

-- the moves whose blocks bytes begin with, so many at most
unfoldable pub first_moves : ℕ → List ℕ → ℕ → List ℕ → List HintMove
first_moves zero link version bytes = []
first_moves (suc n) link version bytes =
    with_more (first_move link version bytes) (λ m. first_moves n (next_block_link link m) m.version (drop (block_len m) bytes))

-- all moves whose blocks bytes begin with, after a link and a version; there are no more of them
-- than bytes
abbrev pub moves_in : List ℕ → ℕ → List ℕ → List HintMove
moves_in link version bytes = first_moves (length bytes) link version bytes

-- the moves of a file of changes, from the version of the hint whose file's head has this digest;
-- none if the file has another head
abbrev pub file_moves : List ℕ → ℕ → List ℕ → List HintMove
file_moves digest version bytes = if is_prefix (changes_head digest) bytes then moves_in (first_block_link digest) version (drop 72 bytes) else []

-- the moves whose blocks are whole in so many bytes
abbrev pub whole_in : ℕ → List HintMove → List HintMove
whole_in n [] = []
whole_in n (m ∷ ms) = if nat_le (block_len m) n then m ∷ whole_in (n - block_len m) ms else []

-- the block that bytes begin with, with the link after it and its length
pub record IsNextBlock (link : List ℕ) (version : ℕ) (bytes : List ℕ) (next : WholeBlock) : Type 0 where
  pub move : first_move link version bytes ≡ Some (move_of next.block)
  pub link_is : next.link.bytes ≡ next_block_link link (move_of next.block)
  pub len : next.len ≡ block_len (move_of next.block)
  pub within : next.len ≤ length bytes

-- the end of some blocks: how many bytes they have, and the link, the version and the count after
-- them
pub record IsChainEnd (link : List ℕ) (version count : ℕ) (ms : List HintMove) (end : ChangesEnd) : Type 0 where
  pub len : end.len ≡ length (blocks_bytes link ms)
  pub link_is : end.link.bytes ≡ last_block_link link ms
  pub version_is : end.version ≡ last_version version ms
  pub count_is : end.count ≡ last_count count ms

-- the end of the whole blocks of a file of changes, if these are its moves: it has the head of this
-- hint's changes, then these blocks, and then what is not read
pub record IsEndOfBlocks (digest : List ℕ) (version count : ℕ) (bytes : List ℕ) (ms : List HintMove) (end : ChangesEnd) : Type 0 where
  pub len : end.len ≡ length (file_bytes digest ms)
  pub within : end.len ≤ length bytes
  pub whole : bytes ≡ file_bytes digest ms ++ drop end.len bytes
  pub link_is : end.link.bytes ≡ last_block_link (first_block_link digest) ms
  pub version_is : end.version ≡ last_version version ms
  pub count_is : end.count ≡ last_count count ms

-- the end of the whole blocks of a file of changes
abbrev pub IsEnd : List ℕ → ℕ → ℕ → List ℕ → ChangesEnd → Type 0
IsEnd digest version count bytes end = IsEndOfBlocks digest version count bytes (file_moves digest version bytes) end
