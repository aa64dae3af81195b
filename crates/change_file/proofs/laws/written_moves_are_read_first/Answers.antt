use Rattle.change_file.proofs.Chains.{all_written}
use Rattle.change_file.proofs.laws.written_moves_are_read_first.Goals as goal

pub returns : goal.returns
returns c = λ link more version ms each. all_written link more version ms each
