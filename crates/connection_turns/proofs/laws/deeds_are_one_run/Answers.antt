use Rattle.connection_turns.proofs.Deeds.{deeds_are_one_run}
use Rattle.connection_turns.proofs.laws.deeds_are_one_run.Goals as goal

pub returns : goal.returns
returns c = deeds_are_one_run
