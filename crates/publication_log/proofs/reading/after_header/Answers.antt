use Rattle.std.proofs.Common.{◌≡◌, ◌≤◌, ◌<◌, ◌+◌, ◌-◌, ◌^◌, ◌++◌, ◌∷◌, [], ℕ, List, length, take, drop, Some, None, Option, Ok, Err, Result, refl, sym, ap, subst, ◌∙◌, append_assoc, rules, arith, true, false, Bool}
use Rattle.std.proofs.lemmas.List.{take_at}
use Rattle.publication_log.proofs.reading.after_header.Goals as goal

pub returns-then-not-is_same-clause-none : goal.returns-then-not-is_same-clause-none
returns-then-not-is_same-clause-none c = λ rest e.
    let header : List ℕ = c.args.header.now in
    let yes : c.is_same.result ≡ true = c.is_same.ensures.1 (c.split_at.ensures.front ∙ ap (take (length header)) e ∙ take_at header rest (length header) refl) in
    absurd (let no = c.if-not-is_same.true in cc)
