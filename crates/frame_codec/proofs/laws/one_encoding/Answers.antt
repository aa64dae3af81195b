use Rattle.frame_codec.proofs.Unique.{one_encoding}
use Rattle.frame_codec.proofs.laws.one_encoding.Goals as goal

pub returns : goal.returns
returns c = one_encoding
