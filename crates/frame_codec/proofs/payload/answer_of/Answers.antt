use Rattle.frame_codec.proofs.Payloads.{no_stands, has_answer, is_answer}
use Rattle.std.proofs.Common.{arith, rules}
use Rattle.frame_codec.specs.Frames.{IsPayload}
use Rattle.frame_codec.proofs.payload.answer_of.Goals as goal

pub returns-in_default-clause-reads : goal.returns-in_default-clause-reads
returns-in_default-clause-reads c = no_stands 133 c.args.payload.now (λ h. (rw c.in_default.is at c.in_ok-scheme.ensures.none) h.0 h.1)

pub returns-clause-reads : goal.returns-clause-reads
returns-clause-reads c =
    let e = rw c.in-Some.is at c.in_ok-scheme.ensures.some in
    let fits = rw c.in-Some.is at c.in_ok-scheme.ensures.fields in
    is_answer c.args.payload.now c.in-Some.scheme c.in-Some.version c.in-Some.words e fits

pub returns-in_err-scheme-clause-memory : goal.returns-in_err-scheme-clause-memory
returns-in_err-scheme-clause-memory c =
    let n = c.in_err-scheme.ensures.memory in
    let is : IsPayload 133 c.args.payload.now = has_answer c.args.payload.now (λ i. omega (arith, c.type_inv.payload i)) n.0 n.1 in
    search (rules, is)
