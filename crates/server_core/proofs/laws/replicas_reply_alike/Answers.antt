use Rattle.server_core.proofs.Replicas.{reply_alike}
use Rattle.server_core.proofs.laws.replicas_reply_alike.Goals as goal

pub returns : goal.returns
returns c = reply_alike c.pieces_decide.ensures.alike
