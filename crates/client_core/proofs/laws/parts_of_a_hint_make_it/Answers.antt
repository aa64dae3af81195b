use Rattle.client_core.proofs.HintLaws.{parts_make_it}
use Rattle.client_core.proofs.laws.parts_of_a_hint_make_it.Goals as goal

pub returns : goal.returns
returns c = parts_make_it
