use Rattle.std.specs.List.{IsFirstMaxByKey}
use Rattle.connection_table.specs.Places.{held_bytes}
use Rattle.connection_table.proofs.table.largest.Given as goal

abbrev pub invariant-loop-place : goal.invariant-loop-place
invariant-loop-place l = IsFirstMaxByKey held_bytes l.connections l.place l.best
