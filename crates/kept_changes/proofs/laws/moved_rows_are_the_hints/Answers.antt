use Rattle.kept_changes.proofs.Whole.{rows_stay_the_hints}
use Rattle.kept_changes.proofs.laws.moved_rows_are_the_hints.Goals as goal

pub returns : goal.returns
returns c = rows_stay_the_hints
