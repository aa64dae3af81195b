use Rattle.client_core.proofs.HappeningLaws.{clients_happen}
use Rattle.client_core.proofs.laws.clients_happen.Goals as goal

pub returns : goal.returns
returns c = clients_happen
