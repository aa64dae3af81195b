use Rattle.digit_pack.proofs.WiderRows.{WidensFirst}
use Rattle.digit_pack.proofs.widening.copy_rows.Given as goal

abbrev pub invariant-loop-i : goal.invariant-loop-i
invariant-loop-i l = WidensFirst l.words l.rows l.from l.to l.i l.wide
