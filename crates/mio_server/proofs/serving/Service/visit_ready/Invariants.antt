use Rattle.std.proofs.Common.{◌≡◌, ◌≤◌, ◌<◌, ◌⊎◌, ℕ, Some, IfSome, slice_get}
use Rattle.mio_server.specs.Turns.{AreMarkedNoted, HasNoIdle, HasTurnIfMarked}
use Rattle.mio_server.specs.Sessions.{AreNoted}
use Rattle.mio_server.proofs.serving.Service.visit_ready.Given as goal

abbrev pub invariant-loop-at : goal.invariant-loop-at
invariant-loop-at g l = record {
  noted : AreNoted l.self.places.connections.items l.server.core l.self.next_id;
  limits : l.self.limits ≡ l.fn.self.limits;
  scanned : l.self.schedule.scanned ≡ l.fn.self.schedule.scanned;
  turns : l.self.schedule.turns ≡ l.fn.self.schedule.ready;
  stays : (i : ℕ) → HasNoIdle l.fn.self.places.connections.items i l.fn.self.schedule.scanned l.fn.self.limits.idle
      → HasNoIdle l.self.places.connections.items i l.fn.self.schedule.scanned l.fn.self.limits.idle;
  marked : AreMarkedNoted l.fn.self.places.connections.items l.fn.self.schedule.visits_all l.fn.self.schedule.ready.items
      → (i : ℕ) → HasTurnIfMarked l.self.places.connections.items l.self.schedule.visits_all l.self.schedule.ready.items i
      ⊎ ((k : ℕ) × (l.at ≤ k) × (slice_get l.fn.self.schedule.ready.items k ≡ Some i));
  idle : (k : ℕ) → k < l.at → IfSome (slice_get l.fn.self.schedule.ready.items k)
      (λ i. HasNoIdle l.self.places.connections.items i l.fn.self.schedule.scanned l.fn.self.limits.idle);
}
