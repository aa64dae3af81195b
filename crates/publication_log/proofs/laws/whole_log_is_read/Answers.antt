use Rattle.publication_log.proofs.Onward.{whole_log}
use Rattle.publication_log.proofs.laws.whole_log_is_read.Goals as goal

pub returns : goal.returns
returns c = whole_log
