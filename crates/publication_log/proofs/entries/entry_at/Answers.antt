use Rattle.std.proofs.Common.{◌≡◌, ◌≤◌, ◌<◌, ◌+◌, ◌-◌, ◌^◌, ◌++◌, ◌∷◌, [], ℕ, List, length, take, drop, Some, None, Option, refl, sym, ap, subst, ◌∙◌, rules, arith, true, false, Bool}
use Rattle.publication_log.specs.Entries.{next_link}
use Rattle.publication_log.proofs.Frames.{length-next, entry_parts, one_frame}
use Rattle.publication_log.proofs.entries.entry_at.Goals as goal

pub returns-in_err-frame-clause-none : goal.returns-in_err-frame-clause-none
returns-in_err-frame-clause-none c = rw c.from_residual.ensures (λ body more is e.
    c.in_err-frame.ensures.none body (next_link c.args.link.now body) more is (length-next c.args.link.now body) (e ∙ entry_parts c.args.link.now body more))

pub returns-then-not-is_linked-clause-none : goal.returns-then-not-is_linked-clause-none
returns-then-not-is_linked-clause-none c = λ body more is e.
    let f = c.in_ok-frame.frame in
    let it = c.in_ok-frame.ensures.some in
    let same = one_frame f.body.now body f.digest.now (next_link c.args.link.now body) f.rest.now more it.0 is it.1 (length-next c.args.link.now body) (sym it.2 ∙ e ∙ entry_parts c.args.link.now body more) in
    let linked : f.digest.now ≡ next_link c.args.link.now f.body.now = same.1 ∙ ap (next_link c.args.link.now) (sym same.0) in
    let yes : c.is_linked.result ≡ true = c.is_linked.ensures.1 linked in
    absurd (let no = c.if-not-is_linked.true in cc)
