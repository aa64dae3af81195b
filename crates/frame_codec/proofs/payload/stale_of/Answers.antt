use Rattle.std.proofs.Common.{◌≡◌, arith, drop}
use Rattle.std.proofs.lemmas.List.{take_rest}
use Rattle.frame_codec.specs.Numbers.{number_in}
use Rattle.frame_codec.proofs.Payloads.{no_stands, is_stale}
use Rattle.frame_codec.proofs.payload.stale_of.Goals as goal

pub returns-then-payload-ne12 : goal.returns-then-payload-ne12
returns-then-payload-ne12 c = no_stands 134 c.args.payload.now (λ h. c.if-payload-ne12.true h)

pub returns : goal.returns
returns c =
    let e : c.u32_at.result ≡ number_in 4 (drop 8 c.args.payload.now) = rw take_rest at c.u32_at.ensures in
    is_stale c.args.payload.now (λ i. omega (arith, c.type_inv.payload i)) c.if-payload-ne12.false _ _ (omega (arith, c.u64_at.type_inv))
    (omega (arith, c.u32_at.type_inv)) c.u64_at.ensures e
