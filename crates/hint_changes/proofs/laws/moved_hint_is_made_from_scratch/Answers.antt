use Rattle.hint_changes.proofs.SeveralChanges.{hint_moves}
use Rattle.hint_changes.proofs.laws.moved_hint_is_made_from_scratch.Goals as goal

pub returns : goal.returns
returns c = hint_moves
