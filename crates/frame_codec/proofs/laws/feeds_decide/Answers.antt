use Rattle.frame_codec.proofs.Feedings.{feeds_decide, feeds_begin, feeds_agree}
use Rattle.frame_codec.proofs.laws.feeds_decide.Goals as goal

pub returns-clause-same : goal.returns-clause-same
returns-clause-same c = feeds_decide

pub returns-clause-prefix : goal.returns-clause-prefix
returns-clause-prefix c = feeds_begin

pub returns-clause-either : goal.returns-clause-either
returns-clause-either c = feeds_agree
