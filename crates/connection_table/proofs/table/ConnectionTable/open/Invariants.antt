use Rattle.std.proofs.Common.{◌≡◌, take}
use Rattle.connection_table.specs.Places.{open_count}
use Rattle.connection_table.proofs.table.ConnectionTable.open.Given as goal

abbrev pub invariant-loop-connection : goal.invariant-loop-connection
invariant-loop-connection l = l.open ≡ open_count (take l.connection-index l.self.connections.items)
