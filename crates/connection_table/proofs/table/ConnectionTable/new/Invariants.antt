use Rattle.std.proofs.Common.{◌≡◌, None, replicate}
use Rattle.connection_table.proofs.table.ConnectionTable.new.Given as goal

abbrev pub invariant-loop : goal.invariant-loop
invariant-loop l = l.connections.items ≡ replicate l.counter None
