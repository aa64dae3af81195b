use Rattle.std.proofs.Common.{◌≡◌, ℕ, ◌+◌, take}
use Rattle.record_log.specs.Logs.{total_bytes}
use Rattle.record_log.specs.Steps.{HaveLen, olds_of}
use Rattle.record_log.proofs.keeping.are_within.Given as goal

abbrev pub invariant-loop-list : goal.invariant-loop-list
invariant-loop-list l = (len : ℕ) → HaveLen len l.lists → total_bytes len (olds_of (take l.list-index l.lists)) + l.room ≡ l.most
