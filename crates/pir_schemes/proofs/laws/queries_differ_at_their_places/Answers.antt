use Rattle.pir_schemes.proofs.Places.{queries_differ}
use Rattle.pir_schemes.proofs.laws.queries_differ_at_their_places.Goals as goal

pub returns : goal.returns
returns c = queries_differ
