use Rattle.client_core.proofs.HintLaws.{delta_makes_it}
use Rattle.client_core.proofs.laws.delta_makes_the_hint.Goals as goal

pub returns : goal.returns
returns c = delta_makes_it
