use Rattle.std.proofs.Common.{◌≡◌, take}
use Rattle.connection_table.specs.Watching.{peer_count}
use Rattle.connection_table.proofs.table.ConnectionTable.open_of.Given as goal

abbrev pub invariant-loop-connection : goal.invariant-loop-connection
invariant-loop-connection l = l.open ≡ peer_count l.peer (take l.connection-index l.self.connections.items)
