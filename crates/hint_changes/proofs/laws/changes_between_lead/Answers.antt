use Rattle.hint_changes.proofs.Between.{between_lead}
use Rattle.hint_changes.proofs.laws.changes_between_lead.Goals as goal

pub returns : goal.returns
returns c = between_lead
