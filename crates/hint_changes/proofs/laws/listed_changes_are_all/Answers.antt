use Rattle.hint_changes.proofs.Listed.{listed_are_all}
use Rattle.hint_changes.proofs.laws.listed_changes_are_all.Goals as goal

pub returns : goal.returns
returns c = listed_are_all
