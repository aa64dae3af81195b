use Rattle.change_file.proofs.Cuts.{append_adds}
use Rattle.change_file.proofs.laws.append_adds_a_move.Goals as goal

pub returns : goal.returns
returns c = append_adds
