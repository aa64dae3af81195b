use Rattle.publication_log.proofs.Verdicts.{verdict_is}
use Rattle.publication_log.proofs.laws.one_verdict.Goals as goal

pub returns : goal.returns
returns c = verdict_is
