use Rattle.digit_pack.proofs.Records.{recompose_decompose}
use Rattle.digit_pack.proofs.laws.decomposed_recomposes.Goals as goal

pub returns : goal.returns
returns c = recompose_decompose
