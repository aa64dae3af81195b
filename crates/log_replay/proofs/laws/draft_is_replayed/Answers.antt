use Rattle.log_replay.proofs.LawLemmas.{draft_replayed}
use Rattle.log_replay.proofs.laws.draft_is_replayed.Goals as goal

pub returns : goal.returns
returns c = draft_replayed
