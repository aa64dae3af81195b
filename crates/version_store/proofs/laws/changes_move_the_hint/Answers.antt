use Rattle.version_store.proofs.ChangesMove.{changes_move}
use Rattle.version_store.proofs.laws.changes_move_the_hint.Goals as goal

pub returns : goal.returns
returns c = changes_move
