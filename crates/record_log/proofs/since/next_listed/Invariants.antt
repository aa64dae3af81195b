use Rattle.std.proofs.Common.{take}
use Rattle.record_log.specs.Steps.{IsNext, olds_of}
use Rattle.record_log.proofs.since.next_listed.Given as goal

abbrev pub invariant-loop-list : goal.invariant-loop-list
invariant-loop-list l = IsNext (olds_of (take l.list-index l.lists)) l.least l.next
