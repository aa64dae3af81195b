use Rattle.hint_update.specs.Updates.{AddsRows}
use Rattle.hint_update.proofs.rows.add_passing.Given as goal

abbrev pub invariant-loop-b : goal.invariant-loop-b
invariant-loop-b g l = AddsRows l.fn.client_hint l.client_hint l.block.first l.b l.factors l.public l.t l.n
