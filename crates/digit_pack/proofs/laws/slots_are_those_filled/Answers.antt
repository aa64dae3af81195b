use Rattle.digit_pack.proofs.SlotLemmas.{slots_are_those_filled}
use Rattle.digit_pack.proofs.laws.slots_are_those_filled.Goals as goal

pub returns : goal.returns
returns c = slots_are_those_filled
