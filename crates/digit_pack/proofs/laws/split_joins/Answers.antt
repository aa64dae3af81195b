use Rattle.digit_pack.proofs.DigitSums.{join_split}
use Rattle.digit_pack.proofs.laws.split_joins.Goals as goal

pub returns : goal.returns
returns c = join_split
