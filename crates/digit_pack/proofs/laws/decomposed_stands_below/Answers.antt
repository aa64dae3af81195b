use Rattle.digit_pack.proofs.Records.{entry-decomposed}
use Rattle.digit_pack.proofs.laws.decomposed_stands_below.Goals as goal

pub returns : goal.returns
returns c = entry-decomposed
