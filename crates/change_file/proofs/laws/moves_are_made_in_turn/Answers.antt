use Rattle.change_file.proofs.InTurn.{made_in_turn}
use Rattle.change_file.proofs.laws.moves_are_made_in_turn.Goals as goal

pub returns : goal.returns
returns c = made_in_turn
