use Rattle.client_core.proofs.HintKeeping.{only_syncs_change_the_hint}
use Rattle.client_core.proofs.laws.only_syncs_change_the_hint.Goals as goal

pub returns : goal.returns
returns c = only_syncs_change_the_hint
