use Rattle.kept_changes.proofs.Whole.{rows_of_whole}
use Rattle.kept_changes.proofs.laws.rows_are_of_the_whole.Goals as goal

pub returns : goal.returns
returns c = rows_of_whole
