use Rattle.std.proofs.Common.{◌+◌}
use Rattle.matrix_u32.specs.Matrix.{product}
use Rattle.simple_scheme.proofs.Rows.{HasRowsPut}
use Rattle.simple_scheme.proofs.hints.put_rows.Given as goal

abbrev pub invariant-loop-i : goal.invariant-loop-i
invariant-loop-i g l = HasRowsPut l.fn.hint (product (g.S.DigitStore.digits l.digits) l.a) l.start (l.start + l.i) l.hint
