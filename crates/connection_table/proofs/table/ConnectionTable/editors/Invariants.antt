use Rattle.std.proofs.Common.{◌≡◌, take}
use Rattle.connection_table.specs.Drafting.{editor_count}
use Rattle.connection_table.proofs.table.ConnectionTable.editors.Given as goal

abbrev pub invariant-loop-connection : goal.invariant-loop-connection
invariant-loop-connection l = l.editors ≡ editor_count l.version (take l.connection-index l.self.connections.items)
