use Rattle.std.proofs.Common.{◌++◌, take}
use Rattle.std.proofs.KnownBytes.{Consumes-trans}
use Rattle.world_script.proofs.input.read_script.Goals as goal

pub returns-then-is_err-clause-stops : goal.returns-then-is_err-clause-stops
returns-then-is_err-clause-stops g c = (
  c.loop-reader.script.items ++ take c.in-Ok-read_piece.n c.read_piece.new.buffer.items,
  Consumes-trans (g.R.Read.remaining c.args.reader.now) (g.R.Read.remaining c.loop-reader.reader) (g.R.Read.remaining c.read_piece.new.reader)
      c.loop-reader.script.items (take c.in-Ok-read_piece.n c.read_piece.new.buffer.items)
      c.loop-reader.invariant.read c.in-Ok-read_piece.ensures.piece,
)
