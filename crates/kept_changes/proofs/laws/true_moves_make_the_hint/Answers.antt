use Rattle.kept_changes.proofs.Whole.{true_moves}
use Rattle.kept_changes.proofs.laws.true_moves_make_the_hint.Goals as goal

pub returns : goal.returns
returns c = true_moves
