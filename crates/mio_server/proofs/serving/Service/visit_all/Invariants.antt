use Rattle.std.proofs.Common.{◌≡◌, ◌<◌, ℕ, [], false}
use Rattle.mio_server.specs.Turns.{HasNoIdle, HasTurnIfMarked}
use Rattle.mio_server.specs.Sessions.{AreNoted}
use Rattle.mio_server.proofs.serving.Service.visit_all.Given as goal

abbrev pub invariant-loop-place : goal.invariant-loop-place
invariant-loop-place g l = record {
  noted : AreNoted l.self.places.connections.items l.server.core l.self.next_id;
  limits : l.self.limits ≡ l.fn.self.limits;
  scanned : l.self.schedule.scanned ≡ l.fn.self.schedule.scanned;
  stays : (i : ℕ) → HasNoIdle l.fn.self.places.connections.items i l.fn.self.schedule.scanned l.fn.self.limits.idle
      → HasNoIdle l.self.places.connections.items i l.fn.self.schedule.scanned l.fn.self.limits.idle;
  marks_stay : (i : ℕ) → HasTurnIfMarked l.fn.self.places.connections.items false [] i
      → HasTurnIfMarked l.self.places.connections.items l.self.schedule.visits_all l.self.schedule.ready.items i;
  marked : (i : ℕ) → i < l.place → HasTurnIfMarked l.self.places.connections.items l.self.schedule.visits_all l.self.schedule.ready.items i;
  idle : (i : ℕ) → i < l.place → HasNoIdle l.self.places.connections.items i l.fn.self.schedule.scanned l.fn.self.limits.idle;
}
