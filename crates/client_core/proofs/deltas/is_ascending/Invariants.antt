use Rattle.std.proofs.Common.{◌≡◌, drop}
use Rattle.client_core.specs.Replies.{are_ascending, row_numbers}
use Rattle.client_core.proofs.deltas.is_ascending.Given as goal

abbrev pub invariant-loop-j : goal.invariant-loop-j
invariant-loop-j l = are_ascending 0 l.limit (row_numbers l.rows) ≡ are_ascending l.from l.limit (drop l.j (row_numbers l.rows))
