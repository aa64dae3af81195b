use Rattle.frame_codec.proofs.NumberBytes.{only_bytes, reads_back}
use Rattle.frame_codec.proofs.laws.one_number.Goals as goal

pub returns-clause-read : goal.returns-clause-read
returns-clause-read c = only_bytes

pub returns-clause-written : goal.returns-clause-written
returns-clause-written c = reads_back
