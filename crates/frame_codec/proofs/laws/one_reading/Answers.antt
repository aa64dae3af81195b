use Rattle.frame_codec.proofs.Unique.{one_reading}
use Rattle.frame_codec.proofs.laws.one_reading.Goals as goal

pub returns : goal.returns
returns c = one_reading
