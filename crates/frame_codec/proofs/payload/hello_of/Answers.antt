use Rattle.std.proofs.Common.{◌≡◌, arith, ◌∙◌, drop}
use Rattle.std.proofs.lemmas.List.{take_rest}
use Rattle.frame_codec.proofs.Payloads.{no_stands, is_hello}
use Rattle.frame_codec.proofs.payload.hello_of.Goals as goal

pub returns-then-payload-ne34 : goal.returns-then-payload-ne34
returns-then-payload-ne34 c = no_stands 2 c.args.payload.now (λ h. c.if-payload-ne34.true h)

pub returns : goal.returns
returns c =
    let key : c.copied.result ≡ drop 2 c.args.payload.now = c.copied.ensures.items ∙ take_rest c.args.payload.now 2 in
    is_hello c.args.payload.now (λ i. omega (arith, c.type_inv.payload i)) c.if-payload-ne34.false c.u16_at.result c.copied.result
    (omega (arith, c.u16_at.type_inv)) c.u16_at.ensures key c.copied.ensures.fields
