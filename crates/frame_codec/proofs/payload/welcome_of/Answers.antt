use Rattle.std.proofs.Common.{arith, ◌∙◌}
use Rattle.std.proofs.lemmas.List.{take_rest}
use Rattle.frame_codec.proofs.Payloads.{no_stands, is_welcome, WelcomeFields}
use Rattle.frame_codec.proofs.payload.welcome_of.Goals as goal

pub returns-then-payload-ne53 : goal.returns-then-payload-ne53
returns-then-payload-ne53 c = no_stands 130 c.args.payload.now (λ h. c.if-payload-ne53.true h)

pub returns : goal.returns
returns c =
    let fields : WelcomeFields c.args.payload.now c.u16_at.result c.u16_at-2.result c.u16_at-3.result c.u32_at.result c.u64_at.result c.u16_at-4.result
    c.copied.result = record {
      profile_is = c.u16_at.ensures;
      record_len_is = rw take_rest at c.u16_at-2.ensures;
      groups_is = rw take_rest at c.u16_at-3.ensures;
      count_is = rw take_rest at c.u32_at.ensures;
      version_is = rw take_rest at c.u64_at.ensures;
      dimension_is = rw take_rest at c.u16_at-4.ensures;
      seed_is = c.copied.ensures.items ∙ take_rest c.args.payload.now 21;
    } in
    is_welcome c.args.payload.now (λ i. omega (arith, c.type_inv.payload i)) c.if-payload-ne53.false _ _ _ _ _ _ c.copied.result fields
    (omega (arith, c.u16_at.type_inv)) (omega (arith, c.u16_at-2.type_inv)) (omega (arith, c.u16_at-3.type_inv)) (omega (arith, c.u32_at.type_inv))
    (omega (arith, c.u64_at.type_inv)) (omega (arith, c.u16_at-4.type_inv)) c.copied.ensures.fields
