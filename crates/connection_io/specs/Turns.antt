-- One turn of an engine: a read, and what is written for it.
use Rattle.std.specs.Prelude.{◌<◌, ◌≤◌, ℕ, List, length}
use Rattle.connection_io.specs.Calls.{IoCall, Read}

-- the piece that was read, and the bytes that were written for it before the next read
pub record CallTurn : Type 0 where
  pub piece : List ℕ
  pub output : List ℕ

-- one read, with room for 65,536 bytes, that gave this piece, which is not the end
pub record ReadsPiece {C : Type 0} (does : C → IoCall → C → Type 0) (a : C) (piece : List ℕ) (b : C) : Type 0 where
  pub read : does a (Read 65536 piece) b
  pub some : 0 < length piece
  pub most : length piece ≤ 65536
