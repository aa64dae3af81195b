use Rattle.server_core.proofs.Memories.{feeds_are_alike, feeds_had_memory}
use Rattle.server_core.proofs.laws.feeds_are_alike.Goals as goal

pub returns-clause-same : goal.returns-clause-same
returns-clause-same c = feeds_are_alike c.feeds_decide.ensures.same

pub returns-clause-either : goal.returns-clause-either
returns-clause-either c = feeds_had_memory
