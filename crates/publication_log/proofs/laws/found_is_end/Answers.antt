use Rattle.publication_log.proofs.Ends.{found_is_end}
use Rattle.publication_log.proofs.laws.found_is_end.Goals as goal

pub returns : goal.returns
returns c = found_is_end
