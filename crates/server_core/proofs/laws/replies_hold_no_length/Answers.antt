use Rattle.server_core.proofs.Alike.{replies_hold_no_length, answers_have_their_layouts_length}
use Rattle.server_core.proofs.laws.replies_hold_no_length.Goals as goal

pub returns-clause-alike : goal.returns-clause-alike
returns-clause-alike c = replies_hold_no_length

pub returns-clause-answered : goal.returns-clause-answered
returns-clause-answered c = answers_have_their_layouts_length
