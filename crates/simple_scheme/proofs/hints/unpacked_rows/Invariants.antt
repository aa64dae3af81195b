use Rattle.simple_scheme.specs.Blocks.{rows_from}
use Rattle.simple_scheme.proofs.Rows.{HasRowsOf}
use Rattle.simple_scheme.proofs.hints.unpacked_rows.Given as goal

abbrev pub invariant-loop-i : goal.invariant-loop-i
invariant-loop-i g l = HasRowsOf (rows_from (g.S.DigitStore.digits l.digits) l.start l.count) l.i l.block
