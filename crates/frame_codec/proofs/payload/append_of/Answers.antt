use Rattle.std.proofs.Common.{◌≡◌, arith, rules, ◌∙◌}
use Rattle.frame_codec.proofs.Payloads.{has_append, is_append}
use Rattle.frame_codec.specs.Frames.{IsPayload}
use Rattle.frame_codec.proofs.payload.append_of.Goals as goal

pub returns-clause-reads : goal.returns-clause-reads
returns-clause-reads c =
    let content : c.new.result ≡ c.args.payload.now = c.new.ensures.items ∙ c.in_ok-bytes.ensures.items in
    is_append c.args.payload.now c.new.result content c.new.ensures.fields

pub returns-in_err-bytes-clause-memory : goal.returns-in_err-bytes-clause-memory
returns-in_err-bytes-clause-memory c =
    let is : IsPayload 9 c.args.payload.now = has_append c.args.payload.now (λ i. omega (arith, c.type_inv.payload i)) in
    search (rules, is)
