use Rattle.std.proofs.Common.{◌≡◌, ◌≤◌, ◌<◌, ◌+◌, ◌-◌, ◌^◌, ◌++◌, ◌∷◌, [], ℕ, List, length, take, drop, Some, None, Option, Ok, Err, Result, refl, sym, ap, subst, ◌∙◌, append_assoc, rules, arith, true, false, Bool}
use Rattle.publication_log.specs.Entries.{log_entry, next_link}
use Rattle.publication_log.proofs.Frames.{one_frame}
use Rattle.publication_log.proofs.entries.goes_on.Goals as goal

pub returns-in-None : goal.returns-in-None
returns-in-None c = (
  λ yes. absurd (cc),
  λ (body, digest, next, more, is, count, also, e).
      let it = c.in-Some.ensures.some in
      let f = c.in-Some.frame in
      let beyond : List ℕ = log_entry (next_link c.args.link.now body) next ++ more in
      let same = one_frame f.body.now body f.digest.now digest f.rest.now beyond it.0 is it.1 count (sym it.2 ∙ e) in
      let link : next_link c.args.link.now body ≡ c.link_after-next.result = ap (next_link c.args.link.now) (sym same.0) ∙ sym c.link_after-next.ensures in
      absurd (c.in-None.ensures.none next more also (same.2 ∙ ap (λ (x : List ℕ). log_entry x next ++ more) link)),
)
