use Rattle.digit_pack.proofs.Records.{unpack-pack}
use Rattle.digit_pack.proofs.laws.pack_unpacks.Goals as goal

pub returns : goal.returns
returns c = unpack-pack
