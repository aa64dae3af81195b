use Rattle.std.proofs.Common.{◌≡◌, arith, rules, ◌∙◌, drop}
use Rattle.std.proofs.lemmas.List.{take_rest}
use Rattle.frame_codec.proofs.Payloads.{no_stands, has_edit, is_edit}
use Rattle.frame_codec.specs.Frames.{IsPayload}
use Rattle.frame_codec.proofs.payload.edit_of.Goals as goal

pub returns-then-payload-lt4-clause-reads : goal.returns-then-payload-lt4-clause-reads
returns-then-payload-lt4-clause-reads c = no_stands 6 c.args.payload.now (λ h. omega (arith, h))

pub returns-clause-reads : goal.returns-clause-reads
returns-clause-reads c =
    let content : c.new.result ≡ drop 4 c.args.payload.now = c.new.ensures.items ∙ c.in_ok-bytes.ensures.items ∙ take_rest c.args.payload.now 4 in
    is_edit c.args.payload.now (λ i. omega (arith, c.type_inv.payload i)) (omega arith) _ c.new.result
    (omega (arith, c.u32_at.type_inv)) c.u32_at.ensures content c.new.ensures.fields

pub returns-in_err-bytes-clause-memory : goal.returns-in_err-bytes-clause-memory
returns-in_err-bytes-clause-memory c =
    let is : IsPayload 6 c.args.payload.now = has_edit c.args.payload.now (λ i. omega (arith, c.type_inv.payload i)) (omega arith) in
    search (rules, is)
