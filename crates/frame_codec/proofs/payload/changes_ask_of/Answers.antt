use Rattle.std.proofs.Common.{arith}
use Rattle.frame_codec.proofs.Payloads.{no_stands, is_changes_ask}
use Rattle.frame_codec.proofs.payload.changes_ask_of.Goals as goal

pub returns-then-payload-ne8 : goal.returns-then-payload-ne8
returns-then-payload-ne8 c = no_stands 10 c.args.payload.now (λ h. c.if-payload-ne8.true h)

pub returns : goal.returns
returns c = is_changes_ask c.args.payload.now (λ i. omega (arith, c.type_inv.payload i)) c.if-payload-ne8.false _
    (omega (arith, c.u64_at.type_inv)) c.u64_at.ensures
