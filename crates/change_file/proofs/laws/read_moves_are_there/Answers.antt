use Rattle.change_file.proofs.Chains.{read_is_there}
use Rattle.change_file.proofs.laws.read_moves_are_there.Goals as goal

pub returns : goal.returns
returns c = λ link bytes version. read_is_there link bytes version
