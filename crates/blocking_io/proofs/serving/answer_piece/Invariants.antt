use Rattle.std.proofs.Common.{◌≡◌, ◌≢◌, ◌++◌, List, ℕ, true, length}
use Rattle.connection_io.specs.Calls.{Sends}
use Rattle.server_core.specs.Cores.{session_of, is_open}
use Rattle.blocking_io.proofs.Frames.{ReachedThere}
use Rattle.blocking_io.proofs.serving.answer_piece.Given as goal

abbrev pub invariant-frames : goal.invariant-frames
invariant-frames g l = record {
  part : List ℕ;
  bytes : List ℕ;
  whole : l.fn.piece ≡ part ++ l.rest;
  sent : Sends g.C.Connection.does l.fn.connection bytes l.connection;
  reached : ReachedThere l.fn.id l.fn.core part bytes l.core;
  open_ : is_open (session_of l.core.sessions l.fn.id) ≡ true;
  others : (other : ℕ) → other ≢ l.fn.id → session_of l.core.sessions other ≡ session_of l.fn.core.sessions other;
}

abbrev pub decreases-frames : goal.decreases-frames
decreases-frames g l = length l.rest
