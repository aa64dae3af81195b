use Rattle.client_core.proofs.NumberLaws.{no_number_is_used_twice}
use Rattle.client_core.proofs.laws.no_number_twice.Goals as goal

pub returns : goal.returns
returns c = no_number_is_used_twice
