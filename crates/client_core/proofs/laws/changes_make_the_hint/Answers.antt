use Rattle.client_core.proofs.Entries.{changes_make_it}
use Rattle.client_core.proofs.laws.changes_make_the_hint.Goals as goal

pub returns : goal.returns
returns c = changes_make_it
