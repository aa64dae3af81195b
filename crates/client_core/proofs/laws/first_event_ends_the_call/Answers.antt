use Rattle.client_core.proofs.EndingLaws.{first_event_ends_the_call}
use Rattle.client_core.proofs.laws.first_event_ends_the_call.Goals as goal

pub returns : goal.returns
returns c = first_event_ends_the_call
