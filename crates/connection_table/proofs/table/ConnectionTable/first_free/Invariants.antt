use Rattle.std.proofs.Common.{◌≢◌, ◌<◌, ◌≤◌, ℕ, None}
use Rattle.connection_table.specs.Places.{connection_at}
use Rattle.connection_table.proofs.table.ConnectionTable.first_free.Given as goal

abbrev pub invariant-loop-place : goal.invariant-loop-place
invariant-loop-place l = (i : ℕ) → l.from ≤ i → i < l.place → connection_at l.self.connections.items i ≢ None
