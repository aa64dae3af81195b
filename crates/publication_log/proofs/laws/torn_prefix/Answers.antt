use Rattle.publication_log.proofs.Torn.{torn_prefix}
use Rattle.publication_log.proofs.laws.torn_prefix.Goals as goal

pub returns : goal.returns
returns c = torn_prefix
