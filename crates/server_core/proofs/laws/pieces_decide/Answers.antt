use Rattle.server_core.proofs.Agreement.{pieces_decide, pieces_agree}
use Rattle.server_core.proofs.laws.pieces_decide.Goals as goal

pub returns-clause-decided : goal.returns-clause-decided
returns-clause-decided c = pieces_decide c.feeds_decide.ensures.same c.feeds_decide.ensures.prefix

pub returns-clause-alike : goal.returns-clause-alike
returns-clause-alike c = pieces_agree c.feeds_decide.ensures.same c.feeds_decide.ensures.prefix c.feeds_decide.ensures.either
