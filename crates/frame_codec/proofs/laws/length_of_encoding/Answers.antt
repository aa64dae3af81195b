use Rattle.std.proofs.Common.{arith}
use Rattle.frame_codec.proofs.Prefixes.{encoded_length}
use Rattle.frame_codec.proofs.Payloads.{payload_sized}
use Rattle.frame_codec.proofs.laws.length_of_encoding.Goals as goal

pub returns-clause-payload : goal.returns-clause-payload
returns-clause-payload c = payload_sized

pub returns-clause-encoding : goal.returns-clause-encoding
returns-clause-encoding c f = omega (arith, encoded_length f, payload_sized f)
