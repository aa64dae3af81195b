use Rattle.std.proofs.Common.{◌≡◌, ℕ}
use Rattle.mio_server.specs.Turns.{ComesWithTurn, HasTurn}
use Rattle.mio_server.specs.Sessions.{AreNoted}
use Rattle.mio_server.proofs.serving.Service.accept_all.Given as goal

abbrev pub invariant-loop : goal.invariant-loop
invariant-loop g l = record {
  noted : AreNoted l.self.places.connections.items l.server.core l.self.next_id;
  turns : (i : ℕ) → HasTurn l.fn.self.schedule.visits_all l.fn.self.schedule.ready.items i → HasTurn l.self.schedule.visits_all l.self.schedule.ready.items i;
  comes : (i : ℕ) → ComesWithTurn l.fn.self.places.connections.items l.self.places.connections.items l.self.schedule.visits_all l.self.schedule.ready.items i;
  limits : l.self.limits ≡ l.fn.self.limits;
  scanned : l.self.schedule.scanned ≡ l.fn.self.schedule.scanned;
}
