use Rattle.log_replay.proofs.LawLemmas.{last_sixteen}
use Rattle.log_replay.proofs.laws.last_sixteen_suffice.Goals as goal

pub returns : goal.returns
returns c = last_sixteen
