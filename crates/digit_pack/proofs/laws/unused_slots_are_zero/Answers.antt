use Rattle.digit_pack.proofs.Changes.{unused_slot}
use Rattle.digit_pack.proofs.laws.unused_slots_are_zero.Goals as goal

pub returns : goal.returns
returns c = unused_slot
