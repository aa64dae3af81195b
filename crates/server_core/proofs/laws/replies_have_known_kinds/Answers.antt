use Rattle.server_core.proofs.ReplyKinds.{replies_known}
use Rattle.server_core.proofs.laws.replies_have_known_kinds.Goals as goal

pub returns : goal.returns
returns c = replies_known
