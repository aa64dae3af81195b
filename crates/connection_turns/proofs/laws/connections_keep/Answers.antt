use Rattle.connection_turns.proofs.Moves.{connections_keep}
use Rattle.connection_turns.proofs.laws.connections_keep.Goals as goal

pub returns : goal.returns
returns c = connections_keep
