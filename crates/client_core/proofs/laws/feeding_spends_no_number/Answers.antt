use Rattle.client_core.proofs.EndingLaws.{feeding_spends_no_number}
use Rattle.client_core.proofs.laws.feeding_spends_no_number.Goals as goal

pub returns : goal.returns
returns c = feeding_spends_no_number
