use Rattle.publication_log.proofs.Placings.{fault_is_none}
use Rattle.publication_log.proofs.laws.refused_is_none.Goals as goal

pub returns : goal.returns
returns c = fault_is_none
