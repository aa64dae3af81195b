use Rattle.publication_log.proofs.Ends.{end_goes_on}
use Rattle.publication_log.proofs.laws.end_goes_on.Goals as goal

pub returns : goal.returns
returns c = end_goes_on
