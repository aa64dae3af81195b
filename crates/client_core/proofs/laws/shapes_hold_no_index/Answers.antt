use Rattle.client_core.proofs.ShapeLaws.{no_index}
use Rattle.client_core.proofs.laws.shapes_hold_no_index.Goals as goal

pub returns : goal.returns
returns c = no_index
