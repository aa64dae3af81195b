use Rattle.std.proofs.Common.{◌≡◌, arith, drop}
use Rattle.std.proofs.lemmas.List.{take_rest}
use Rattle.frame_codec.specs.Numbers.{number_in}
use Rattle.frame_codec.proofs.Payloads.{no_stands, is_hint_ask}
use Rattle.frame_codec.proofs.payload.hint_ask_of.Goals as goal

pub returns-then-payload-ne13 : goal.returns-then-payload-ne13
returns-then-payload-ne13 c = no_stands 3 c.args.payload.now (λ h. c.if-payload-ne13.true h)

pub returns : goal.returns
returns c =
    let version : c.u64_at.result ≡ number_in 8 (drop 1 c.args.payload.now) = rw take_rest at c.u64_at.ensures in
    let part : c.u32_at.result ≡ number_in 4 (drop 9 c.args.payload.now) = rw take_rest at c.u32_at.ensures in
    is_hint_ask c.args.payload.now (λ i. omega (arith, c.type_inv.payload i)) c.if-payload-ne13.false _ _ (omega (arith, c.u64_at.type_inv))
    (omega (arith, c.u32_at.type_inv)) version part
