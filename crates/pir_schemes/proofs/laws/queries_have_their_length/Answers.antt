use Rattle.pir_schemes.proofs.Lengths.{length_query}
use Rattle.pir_schemes.proofs.laws.queries_have_their_length.Goals as goal

pub returns : goal.returns
returns c = length_query
