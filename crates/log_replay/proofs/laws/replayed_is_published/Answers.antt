use Rattle.log_replay.proofs.LawLemmas.{is_published}
use Rattle.log_replay.proofs.laws.replayed_is_published.Goals as goal

pub returns : goal.returns
returns c = is_published
