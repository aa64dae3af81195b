use Rattle.publication_log.proofs.Placings.{one_body}
use Rattle.publication_log.proofs.laws.one_encoding.Goals as goal

pub returns : goal.returns
returns c = one_body
