use Rattle.pir_schemes.proofs.Lengths.{hint_sizes}
use Rattle.pir_schemes.proofs.laws.hints_have_their_sizes.Goals as goal

pub returns : goal.returns
returns c = hint_sizes
