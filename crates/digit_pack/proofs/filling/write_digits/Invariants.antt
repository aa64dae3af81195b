use Rattle.digit_pack.specs.Columns.{WritesFirst}
use Rattle.digit_pack.proofs.filling.write_digits.Given as goal

abbrev pub invariant-loop-d : goal.invariant-loop-d
invariant-loop-d g l = WritesFirst (g.S.DigitStore.digits l.fn.digits) (g.S.DigitStore.digits l.digits) l.first l.col l.d l.written
