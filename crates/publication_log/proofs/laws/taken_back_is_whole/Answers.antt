use Rattle.publication_log.proofs.Moments.{taken_back_whole}
use Rattle.publication_log.proofs.laws.taken_back_is_whole.Goals as goal

pub returns : goal.returns
returns c = taken_back_whole
