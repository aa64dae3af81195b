use Rattle.hint_update.proofs.Guesses.{own_inverse, inverse_step}
use Rattle.hint_update.proofs.words.inverse_of_odd.Goals as goal

pub loop-i-init : goal.loop-i-init
loop-i-init c = λ odd. own_inverse c.args.x odd

pub loop-i-preserved : goal.loop-i-preserved
loop-i-preserved c = λ odd. inverse_step c.loop-i.i c.args.x c.loop-i.inverse c.loop-i-test.true (c.loop-i.invariant odd)
