use Rattle.publication_log.proofs.Moments.{recovery_whole}
use Rattle.publication_log.proofs.laws.recovery_is_whole.Goals as goal

pub returns : goal.returns
returns c = recovery_whole
