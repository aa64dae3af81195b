use Rattle.change_file.proofs.Chains.{one_by_one}
use Rattle.change_file.proofs.laws.moves_are_read_one_by_one.Goals as goal

pub returns : goal.returns
returns c = λ link bytes version. one_by_one link bytes version
