use Rattle.record_log.proofs.Versions.{kept_are_the_newest}
use Rattle.record_log.proofs.laws.kept_lists_are_the_newest.Goals as goal

pub returns : goal.returns
returns c = kept_are_the_newest
