use Rattle.publication_log.proofs.Moments.{done_kept}
use Rattle.publication_log.proofs.laws.done_is_kept.Goals as goal

pub returns : goal.returns
returns c = done_kept
