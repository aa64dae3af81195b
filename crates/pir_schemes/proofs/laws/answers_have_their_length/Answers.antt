use Rattle.pir_schemes.proofs.Lengths.{length-answer}
use Rattle.pir_schemes.proofs.laws.answers_have_their_length.Goals as goal

pub returns : goal.returns
returns c = length-answer
