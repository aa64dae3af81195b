use Rattle.digit_pack.proofs.DigitSums.{digit-lt}
use Rattle.digit_pack.proofs.laws.digits_are_small.Goals as goal

pub returns : goal.returns
returns c = digit-lt
