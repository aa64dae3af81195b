use Rattle.std.proofs.Common.{ℕ}
use Rattle.mio_server.specs.Turns.{AreMarkedNoted, HasNoIdle}
use Rattle.mio_server.specs.Sessions.{AreNoted}
use Rattle.mio_server.proofs.serving.Service.run.Given as goal

abbrev pub invariant-loop : goal.invariant-loop
invariant-loop g l = record {
  noted : AreNoted l.self.places.connections.items l.server.core l.self.next_id;
  marked : AreMarkedNoted l.self.places.connections.items l.self.schedule.visits_all l.self.schedule.ready.items;
  idle : (i : ℕ) → HasNoIdle l.self.places.connections.items i l.self.schedule.scanned l.self.limits.idle;
}
