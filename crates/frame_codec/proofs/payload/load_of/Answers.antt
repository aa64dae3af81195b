use Rattle.std.proofs.Common.{◌≡◌, ℕ, List, arith, rules, ◌∙◌, drop}
use Rattle.std.proofs.lemmas.List.{take_rest}
use Rattle.frame_codec.specs.Numbers.{number_in}
use Rattle.frame_codec.proofs.Payloads.{no_stands, has_load, is_load}
use Rattle.frame_codec.specs.Frames.{IsPayload}
use Rattle.frame_codec.proofs.payload.load_of.Goals as goal

pub returns-then-payload-lt5-clause-reads : goal.returns-then-payload-lt5-clause-reads
returns-then-payload-lt5-clause-reads c = no_stands 1 c.args.payload.now (λ h. omega (arith, h))

pub returns-clause-reads : goal.returns-clause-reads
returns-clause-reads c =
    let bytes : List ℕ = c.args.payload.now in
    let groups : c.u16_at-2.result ≡ number_in 2 (drop 2 c.args.payload.now) = rw take_rest at c.u16_at-2.ensures in
    let records : c.new.result ≡ drop 5 c.args.payload.now = c.new.ensures.items ∙ c.in_ok-records.ensures.items ∙ take_rest c.args.payload.now 5 in
    is_load c.args.payload.now (λ i. omega (arith, c.type_inv.payload i)) (omega arith) _ _ c.new.result (omega (arith, c.u16_at.type_inv))
    (omega (arith, c.u16_at-2.type_inv)) c.u16_at.ensures groups records c.new.ensures.fields

pub returns-in_err-records-clause-memory : goal.returns-in_err-records-clause-memory
returns-in_err-records-clause-memory c =
    let is : IsPayload 1 c.args.payload.now = has_load c.args.payload.now (λ i. omega (arith, c.type_inv.payload i)) (omega arith) in
    search (rules, is)
