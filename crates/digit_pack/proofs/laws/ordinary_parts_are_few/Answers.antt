use Rattle.digit_pack.proofs.Limits.{few_parts}
use Rattle.digit_pack.proofs.laws.ordinary_parts_are_few.Goals as goal

pub returns : goal.returns
returns c = few_parts
