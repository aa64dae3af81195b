use Rattle.std.proofs.Common.{◌≡◌, ◌≤◌, ◌<◌, ◌+◌, ◌-◌, ◌^◌, ◌++◌, ◌∷◌, [], ℕ, List, length, take, drop, Some, None, Option, Ok, Err, Result, refl, sym, ap, subst, ◌∙◌, append_assoc, rules, arith, true, false, Bool}
use Rattle.publication_log.specs.Entries.{HasEntry}
use Rattle.publication_log.proofs.Torn.{entry_len, entry_here, entry_on, entry_back}
use Rattle.publication_log.proofs.entries.has_entry.Goals as goal

pub returns-in-Some : goal.returns-in-Some
returns-in-Some c = (
  λ yes.
      let it = c.in-Some.ensures.some in
      c.loop-rest.invariant.back (entry_here c.loop-rest.rest.now c.split_at.result.0.now c.split_at.result.1.now c.in-Some._entry.body.now c.in-Some._entry.rest.now (omega (arith, c.loop-rest-test.true))
      c.split_at.ensures.front c.split_at.ensures.back it.0 it.2),
  λ has. refl,
)

pub loop-rest-preserved : goal.loop-rest-preserved
loop-rest-preserved c =
    let rest : List ℕ = c.loop-rest.rest.now in
    let next : c.split_at-in-loop-rest.result.1.now ≡ drop 1 rest = c.split_at-in-loop-rest.ensures.back in record {
      forth = λ has. subst HasEntry (sym next) (entry_on rest c.split_at.result.0.now c.split_at.result.1.now c.split_at.ensures.front c.split_at.ensures.back c.in_default.ensures.none (c.loop-rest.invariant.forth has));
      back = λ has. c.loop-rest.invariant.back (entry_back rest (subst HasEntry next has));
    }

pub returns : goal.returns
returns c = (λ yes. absurd (cc), λ has. absurd (omega (arith, entry_len c.loop-rest.rest.now (c.loop-rest.invariant.forth has), c.loop-rest-test.false)))
