use Rattle.hint_changes.proofs.NetChanges.{changes_lead}
use Rattle.hint_changes.proofs.laws.changes_move_the_hint.Goals as goal

pub returns : goal.returns
returns c = changes_lead
