use Rattle.digit_pack.proofs.Limits.{wide_room}
use Rattle.digit_pack.proofs.laws.wide_store_has_room.Goals as goal

pub returns : goal.returns
returns c = wide_room
