use Rattle.log_replay.proofs.LawLemmas.{records_alike}
use Rattle.log_replay.proofs.laws.records_replay_alike.Goals as goal

pub returns : goal.returns
returns c = records_alike
