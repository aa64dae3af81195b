use Rattle.std.proofs.Common.{◌≡◌, ◌≤◌, List, length}
use Rattle.connection_io.specs.Turns.{CallTurn}
use Rattle.blocking_io.specs.ConversingTurns.{ConversingGoesOn}
use Rattle.blocking_io.proofs.conversing.read_until_event.Given as goal

abbrev pub invariant-turns : goal.invariant-turns
invariant-turns g l = record {
  before : List CallTurn;
  begun : ConversingGoesOn g.C.Connection.does l.fn.client l.fn.connection before l.client l.connection;
  count : length before ≡ l.counter;
  within : l.counter ≤ l.fn.turns;
  room : length l.buffer.items ≡ 65536;
}
