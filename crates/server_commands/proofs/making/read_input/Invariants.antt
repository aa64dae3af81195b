use Rattle.std.proofs.Common.{◌≤◌, ◌<◌, length}
use Rattle.std.specs.Io.KnownBytes.{Consumes}
use Rattle.server_commands.proofs.making.read_input.Given as goal

abbrev pub invariant-pieces : goal.invariant-pieces
invariant-pieces g l = record {
  taken : Consumes (g.R.Read.remaining l.fn.reader) (g.R.Read.remaining l.reader) l.bytes.items;
  few : length l.bytes.items ≤ l.most;
  room : 0 < length l.buffer.items;
}
