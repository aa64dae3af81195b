use Rattle.hint_changes.specs.Changes.{HaveMoved}
use Rattle.hint_changes.proofs.moving.move_rows.Given as goal

abbrev pub invariant-loop-d : goal.invariant-loop-d
invariant-loop-d g l = HaveMoved l.fn.hint l.hint l.public l.first l.d l.old l.new
