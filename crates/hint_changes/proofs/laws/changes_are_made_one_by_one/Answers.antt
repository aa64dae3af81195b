use Rattle.hint_changes.proofs.NetChanges.{made_one_by_one}
use Rattle.hint_changes.proofs.laws.changes_are_made_one_by_one.Goals as goal

pub returns : goal.returns
returns c = made_one_by_one
