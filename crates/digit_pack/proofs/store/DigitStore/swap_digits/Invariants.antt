use Rattle.digit_pack.proofs.ColumnLemmas.{SwapsFirst}
use Rattle.digit_pack.proofs.store.DigitStore.swap_digits.Given as goal

abbrev pub invariant-loop-b : goal.invariant-loop-b
invariant-loop-b g l = SwapsFirst (g.Self.DigitStore.digits l.fn.self) (g.Self.DigitStore.digits l.self) l.first l.j l.b l.fn.others l.others
