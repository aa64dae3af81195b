use Rattle.kept_changes.proofs.Whole.{all_alike}
use Rattle.kept_changes.proofs.laws.rows_move_alike.Goals as goal

pub returns : goal.returns
returns c = all_alike
