use Rattle.connection_turns.proofs.Awaiting.{connections_await}
use Rattle.connection_turns.proofs.laws.connections_await.Goals as goal

pub returns : goal.returns
returns c = connections_await
