use Rattle.std.proofs.Common.{◌≡◌, take}
use Rattle.connection_table.specs.Places.{all_owed}
use Rattle.connection_table.proofs.table.ConnectionTable.owed.Given as goal

abbrev pub invariant-loop-connection : goal.invariant-loop-connection
invariant-loop-connection l = l.owed ≡ all_owed (take l.connection-index l.self.connections.items)
