use Rattle.std.proofs.Common.{◌≤◌, ◌-◌}
use Rattle.matrix_u32.specs.Matrix.{product}
use Rattle.simple_scheme.proofs.Rows.{HasRowsOf}
use Rattle.simple_scheme.proofs.hints.setup_watched.Given as goal

abbrev pub invariant-loop-start : goal.invariant-loop-start
invariant-loop-start g l = record {
  within : l.start ≤ l.rows;
  written : HasRowsOf (product (g.S.DigitStore.digits l.digits) l.a1) l.start l.hint;
}

abbrev pub decreases-loop-start : goal.decreases-loop-start
decreases-loop-start g l = l.rows - l.start
