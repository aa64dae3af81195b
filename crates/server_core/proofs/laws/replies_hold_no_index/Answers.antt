use Rattle.server_core.proofs.Alike.{replies_hold_no_index}
use Rattle.server_core.proofs.laws.replies_hold_no_index.Goals as goal

pub returns : goal.returns
returns c = replies_hold_no_index
