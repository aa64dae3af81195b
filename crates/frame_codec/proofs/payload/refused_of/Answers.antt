use Rattle.std.proofs.Common.{arith}
use Rattle.frame_codec.proofs.Payloads.{no_stands, is_refused}
use Rattle.frame_codec.proofs.payload.refused_of.Goals as goal

pub returns-then-payload-ne1 : goal.returns-then-payload-ne1
returns-then-payload-ne1 c = no_stands 143 c.args.payload.now (λ h. c.if-payload-ne1.true h)

pub returns : goal.returns
returns c = is_refused c.args.payload.now (λ i. omega (arith, c.type_inv.payload i)) c.if-payload-ne1.false
