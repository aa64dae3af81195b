use Rattle.server_core.proofs.Agreement.{never_meet}
use Rattle.server_core.proofs.laws.sessions_never_meet.Goals as goal

pub returns : goal.returns
returns c = never_meet c.pieces_decide.ensures.alike
