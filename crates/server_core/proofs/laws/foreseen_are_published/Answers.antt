use Rattle.server_core.proofs.Foreseen.{foreseen_are_published}
use Rattle.server_core.proofs.laws.foreseen_are_published.Goals as goal

pub returns : goal.returns
returns c = foreseen_are_published
