use Rattle.change_file.proofs.Chains.{one_reading}
use Rattle.change_file.proofs.laws.one_reading.Goals as goal

pub returns : goal.returns
returns c = λ link bytes rest version ms is. one_reading link bytes rest version ms is
