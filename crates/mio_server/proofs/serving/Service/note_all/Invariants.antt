use Rattle.std.proofs.Common.{◌≡◌, ℕ}
use Rattle.mio_server.specs.Turns.{HasTurnIfMarked, OnlyFlagsChange}
use Rattle.mio_server.proofs.serving.Service.note_all.Given as goal

abbrev pub invariant-loop-event : goal.invariant-loop-event
invariant-loop-event l = record {
  flags : OnlyFlagsChange l.fn.self.places.connections.items l.self.places.connections.items;
  marked : (i : ℕ) → HasTurnIfMarked l.fn.self.places.connections.items l.fn.self.schedule.visits_all l.fn.self.schedule.ready.items i
      → HasTurnIfMarked l.self.places.connections.items l.self.schedule.visits_all l.self.schedule.ready.items i;
  limits : l.self.limits ≡ l.fn.self.limits;
  scanned : l.self.schedule.scanned ≡ l.fn.self.schedule.scanned;
  number : l.self.next_id ≡ l.fn.self.next_id;
}
