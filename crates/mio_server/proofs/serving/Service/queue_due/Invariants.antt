use Rattle.std.proofs.Common.{◌≡◌, ◌≤◌, ◌<◌, ℕ, Some, true}
use Rattle.connection_table.specs.declared.connection.ServedConnection.{ServedConnection}
use Rattle.connection_table.specs.Judging.{due_of}
use Rattle.connection_table.specs.Places.{connection_at}
use Rattle.mio_server.specs.Turns.{HasTurnIfMarked, OnlyFlagsChange}
use Rattle.mio_server.proofs.serving.Service.queue_due.Given as goal

abbrev pub invariant-loop-place : goal.invariant-loop-place
invariant-loop-place l = record {
  flags : OnlyFlagsChange l.fn.self.places.connections.items l.self.places.connections.items;
  marked : (i : ℕ) → HasTurnIfMarked l.fn.self.places.connections.items l.fn.self.schedule.visits_all l.fn.self.schedule.ready.items i
      → HasTurnIfMarked l.self.places.connections.items l.self.schedule.visits_all l.self.schedule.ready.items i;
  number : l.self.next_id ≡ l.fn.self.next_id;
  limits : l.self.limits ≡ l.fn.self.limits;
  scanned : l.self.schedule.scanned ≡ l.fn.self.schedule.scanned;
  due : (i : ℕ) (c : ServedConnection) → i < l.place → connection_at l.self.places.connections.items i ≡ Some c → due_of l.self.limits.idle c ≤ l.now → c.queued ≡ true;
}
