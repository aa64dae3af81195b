use Rattle.std.proofs.Common.{◌≤◌, ◌-◌}
use Rattle.hint_update.specs.Updates.{AddsRows}
use Rattle.hint_update.proofs.rows.add_block.Given as goal

abbrev pub invariant-loop-t : goal.invariant-loop-t
invariant-loop-t g l = record {
  within : l.t ≤ l.n;
  adds : AddsRows l.fn.client_hint l.client_hint l.block.first l.block.count l.factors l.public 0 l.t;
}

abbrev pub decreases-loop-t : goal.decreases-loop-t
decreases-loop-t g l = l.n - l.t
