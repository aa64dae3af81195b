use Rattle.client_core.proofs.HintLaws.{synced_is_made}
use Rattle.client_core.proofs.laws.synced_hint_is_made_of_parts.Goals as goal

pub returns : goal.returns
returns c = synced_is_made
