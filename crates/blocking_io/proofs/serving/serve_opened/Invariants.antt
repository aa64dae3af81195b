use Rattle.std.proofs.Common.{◌≡◌, ◌≢◌, ◌≤◌, List, ℕ, true, length}
use Rattle.server_core.specs.Cores.{session_of, is_open}
use Rattle.connection_io.specs.Turns.{CallTurn}
use Rattle.blocking_io.specs.ServingTurns.{KeepsServing}
use Rattle.blocking_io.proofs.serving.serve_opened.Given as goal

abbrev pub invariant-turns : goal.invariant-turns
invariant-turns g l = record {
  before : List CallTurn;
  begun : KeepsServing g.C.Connection.does l.fn.id l.fn.core l.fn.connection before l.core l.connection;
  count : length before ≡ l.counter;
  within : l.counter ≤ l.fn.turns;
  open_ : is_open (session_of l.core.sessions l.fn.id) ≡ true;
  others : (other : ℕ) → other ≢ l.fn.id → session_of l.core.sessions other ≡ session_of l.fn.core.sessions other;
  room : length l.buffer.items ≡ 65536;
}
