use Rattle.publication_log.proofs.Moments.{cut_whole}
use Rattle.publication_log.proofs.laws.cut_is_whole.Goals as goal

pub returns : goal.returns
returns c = cut_whole
