use Rattle.std.proofs.Common.{◌≡◌, take, false}
use Rattle.record_log.specs.Logs.{is_listed}
use Rattle.record_log.specs.Steps.{olds_of}
use Rattle.record_log.proofs.since.oldest_of.Given as goal

abbrev pub invariant-loop-list : goal.invariant-loop-list
invariant-loop-list l = is_listed (olds_of (take l.list-index l.lists)) l.number ≡ false
