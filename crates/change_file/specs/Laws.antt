-- Laws of files of changes.
use Rattle.std.specs.Prelude.{◌≡◌, ◌-◌, ℕ, List, ◌++◌, ◌∷◌, [], Some, take, drop, length, MatchOption}
use Rattle.matrix_u32.specs.Matrix.{WordMatrix}
use Rattle.digit_pack.specs.Layout.{Shape}
use Rattle.change_file.specs.Moves.{moved_by_all}
use Rattle.change_file.specs.Files.{HintMove, IsMove, AreMoves, block_bytes, block_len, blocks_bytes, file_bytes, file_moves, first_block_link, first_move, last_block_link, last_version, moves_in, next_block_link, whole_in}

-- a block that was written is read, whatever is after it
abbrev pub WrittenBlockIsRead : Type 0
WrittenBlockIsRead = (link more : List ℕ) (m : HintMove) → IsMove m → first_move link m.since (block_bytes link m ++ more) ≡ Some m

-- Blocks that were written are read first, and then those that go on from them.
abbrev pub WrittenMovesAreReadFirst : Type 0
WrittenMovesAreReadFirst = (link more : List ℕ) (version : ℕ) (ms : List HintMove) → AreMoves version ms →
    moves_in link version (blocks_bytes link ms ++ more) ≡ ms ++ moves_in (last_block_link link ms) (last_version version ms) more

-- a file that is cut anywhere is read as its blocks that are whole before the cut
abbrev pub CutFileIsRead : Type 0
CutFileIsRead = (digest : List ℕ) (version n : ℕ) (ms : List HintMove) → length digest ≡ 32 → AreMoves version ms →
    file_moves digest version (take n (file_bytes digest ms)) ≡ whole_in (n - 72) ms

-- bytes that begin with these blocks, and with no more
pub record IsReading (link : List ℕ) (version : ℕ) (bytes : List ℕ) (ms : List HintMove) (rest : List ℕ) : Type 0 where
  pub whole : bytes ≡ blocks_bytes link ms ++ rest
  pub each : AreMoves version ms
  pub last : (m : HintMove) (more : List ℕ) → IsMove m → m.since ≡ last_version version ms →
      rest ≡ block_bytes (last_block_link link ms) m ++ more → ⊥

-- What is read is there: each block with its numbers, from the version before it, and with the
-- digest of all before as its link.
abbrev pub ReadMovesAreThere : Type 0
ReadMovesAreThere = (link bytes : List ℕ) (version : ℕ) →
    IsReading link version bytes (moves_in link version bytes) (drop (length (blocks_bytes link (moves_in link version bytes))) bytes)

-- bytes have one reading
abbrev pub OneReading : Type 0
OneReading = (link bytes rest : List ℕ) (version : ℕ) (ms : List HintMove) → IsReading link version bytes ms rest → ms ≡ moves_in link version bytes

-- moves are read one by one
abbrev pub MovesAreReadOneByOne : Type 0
MovesAreReadOneByOne = (link bytes : List ℕ) (version : ℕ) → MatchOption (first_move link version bytes) (moves_in link version bytes ≡ [])
    (λ m. moves_in link version bytes ≡ m ∷ moves_in (next_block_link link m) m.version (drop (block_len m) bytes))

-- A block that is written after the whole blocks of a file, over what is there, adds its move; a
-- file with another head is written anew.
abbrev pub AppendAddsAMove : Type 0
AppendAddsAMove = (digest bytes more : List ℕ) (version : ℕ) (ms : List HintMove) (m : HintMove) → length digest ≡ 32 →
    ms ≡ file_moves digest version bytes → IsMove m → m.since ≡ last_version version ms →
    file_moves digest version (file_bytes digest ms ++ (block_bytes (last_block_link (first_block_link digest) ms) m ++ more))
    ≡ ms ++ (m ∷ moves_in (next_block_link (last_block_link (first_block_link digest) ms) m) m.version more)

-- a hint is moved by the moves of two lists as by those of the first and then by those of the
-- second, and has as many rows and columns as before
pub record MovesInTurn (l : Shape) (seed : List ℕ) (dimension : ℕ) (hint : WordMatrix) (ms others : List HintMove) : Type 0 where
  pub in_turn : moved_by_all l seed dimension (ms ++ others) hint ≡ moved_by_all l seed dimension others (moved_by_all l seed dimension ms hint)
  pub rows : (moved_by_all l seed dimension ms hint).rows ≡ hint.rows
  pub cols : (moved_by_all l seed dimension ms hint).cols ≡ hint.cols

-- so it is with every hint
abbrev pub MovesAreMadeInTurn : Type 0
MovesAreMadeInTurn = (l : Shape) (seed : List ℕ) (dimension : ℕ) (hint : WordMatrix) (ms others : List HintMove) → MovesInTurn l seed dimension hint ms others
