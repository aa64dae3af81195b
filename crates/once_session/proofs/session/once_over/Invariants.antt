use Rattle.std.proofs.Common.{◌≡◌, ◌≤◌, List, ℕ, length, true, Some}
use Rattle.connection_io.specs.Turns.{CallTurn}
use Rattle.once_session.specs.Courses.{HasTable}
use Rattle.once_session.specs.Outputs.{takes_frames}
use Rattle.once_session.specs.OnceTurns.{WorkGoesOn, fresh_work}
use Rattle.once_session.proofs.session.once_over.Given as goal

abbrev pub invariant-turns : goal.invariant-turns
invariant-turns g l = record {
  before : List CallTurn;
  unfinished : List ℕ;
  codec_is : l.codec ≡ Some unfinished;
  begun : WorkGoesOn g.C.Connection.does fresh_work l.fn.connection before (record { stage = l.stage; unfinished = unfinished }) l.connection;
  count : length before ≡ l.counter;
  within : l.counter ≤ l.turns;
  going : takes_frames l.stage ≡ true;
  table : HasTable l.stage;
  room : length l.buffer.items ≡ 65536;
}
