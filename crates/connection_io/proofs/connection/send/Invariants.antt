use Rattle.std.proofs.Common.{length, ◌-◌, ◌≤◌, take}
use Rattle.connection_io.specs.Calls.{Sends}
use Rattle.connection_io.proofs.connection.send.Given as goal

abbrev pub invariant-loop-at : goal.invariant-loop-at
invariant-loop-at g l = record {
  within : l.at ≤ length l.bytes;
  sent : Sends g.C.Connection.does l.fn.connection (take l.at l.bytes) l.connection;
}

abbrev pub decreases-loop-at : goal.decreases-loop-at
decreases-loop-at g l = length l.bytes - l.at
