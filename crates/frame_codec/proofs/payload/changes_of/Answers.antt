use Rattle.std.proofs.Common.{◌≡◌, arith, rules, ◌∙◌, drop}
use Rattle.std.proofs.lemmas.List.{take_rest}
use Rattle.frame_codec.proofs.Payloads.{no_stands, has_changes, is_changes}
use Rattle.frame_codec.specs.Frames.{IsPayload}
use Rattle.frame_codec.specs.Numbers.{number_in}
use Rattle.frame_codec.proofs.payload.changes_of.Goals as goal

pub returns-then-payload-lt20-clause-reads : goal.returns-then-payload-lt20-clause-reads
returns-then-payload-lt20-clause-reads c = no_stands 138 c.args.payload.now (λ h. omega (arith, h))

pub returns-clause-reads : goal.returns-clause-reads
returns-clause-reads c =
    let content : c.new.result ≡ drop 20 c.args.payload.now = c.new.ensures.items ∙ c.in_ok-entries.ensures.items ∙ take_rest c.args.payload.now 20 in
    let now : c.u64_at-2.result ≡ number_in 8 (drop 8 c.args.payload.now) = rw take_rest at c.u64_at-2.ensures in
    let count : c.u32_at.result ≡ number_in 4 (drop 16 c.args.payload.now) = rw take_rest at c.u32_at.ensures in
    is_changes c.args.payload.now (λ i. omega (arith, c.type_inv.payload i)) (omega arith) _ _ _ c.new.result
    (record { since_is = c.u64_at.ensures; now_is = now; count_is = count; entries_are = content })
    (omega (arith, c.u64_at.type_inv)) (omega (arith, c.u64_at-2.type_inv)) (omega (arith, c.u32_at.type_inv)) c.new.ensures.fields

pub returns-in_err-entries-clause-memory : goal.returns-in_err-entries-clause-memory
returns-in_err-entries-clause-memory c =
    let is : IsPayload 138 c.args.payload.now = has_changes c.args.payload.now (λ i. omega (arith, c.type_inv.payload i)) (omega arith) in
    search (rules, is)
