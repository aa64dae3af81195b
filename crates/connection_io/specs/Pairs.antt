-- What a reader and a writer as one connection show of its calls.
use Rattle.std.specs.Prelude.{◌≡◌, ◌<◌, ℕ, List, [], Option}
use Rattle.std.specs.Io.KnownBytes.{Appends, Consumes, IsAtEnd, Keeps}
use Rattle.connection_io.specs.Calls.{IoCall, Read, ReadFails, Write, WriteFails}
use Rattle.connection_io.specs.declared.pair.Pair.{Pair}

-- what a call does to the bytes that a reader has left and to those that a writer holds, if they
-- are known
abbrev pub MovesBytes : Option (List ℕ) → Option (List ℕ) → IoCall → Option (List ℕ) → Option (List ℕ) → Type 0
MovesBytes left held (Read room bytes) left2 held2 = Consumes left left2 bytes × (bytes ≡ [] → 0 < room → IsAtEnd left2) × (held2 ≡ held)
MovesBytes left held ReadFails left2 held2 = Keeps left left2 × (held2 ≡ held)
MovesBytes left held (Write bytes) left2 held2 = (left2 ≡ left) × Appends held held2 bytes
MovesBytes left held WriteFails left2 held2 = (left2 ≡ left) × Keeps held held2

-- what a call does to a pair: its reader's and its writer's bytes change so, and both stay the ones
-- that they were
pub record PairDoes {R W : Type 0} (remaining : R → Option (List ℕ)) (contents : W → Option (List ℕ)) (a : Pair R W) (call : IoCall) (b : Pair R W) : Type 0 where
  pub moves : MovesBytes (remaining a.reader.now) (contents a.writer.now) call (remaining b.reader.now) (contents b.writer.now)
  pub same_reader : b.reader.ghost_name ≡ a.reader.ghost_name
  pub same_writer : b.writer.ghost_name ≡ a.writer.ghost_name
