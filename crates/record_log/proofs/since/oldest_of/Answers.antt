use Rattle.std.proofs.Common.{◌≡◌, arith, ◌∙◌, sym, refl, true}
use Rattle.std.proofs.lemmas.Bool.{both_ways, true_from_ne_false}
use Rattle.record_log.specs.OldRecords.{OldBytes, has_old, old_bytes_in}
use Rattle.record_log.specs.Logs.{is_listed, oldest_bytes}
use Rattle.record_log.specs.Steps.{olds_of}
use Rattle.record_log.proofs.Listing.{oldest_there}
use Rattle.record_log.proofs.since.oldest_of.Goals as goal

-- the record is in this list, and in none before it
found : (c : goal.In-Some) →
    (oldest_bytes (olds_of c.args.lists.now) c.args.number ≡ old_bytes_in c.list-item.result.records c.args.number)
    × (is_listed (olds_of c.args.lists.now) c.args.number ≡ true)
found c =
    let o : OldBytes = c.list-item.result in
    let there : has_old o.records c.args.number ≡ true =
    true_from_ne_false (has_old o.records c.args.number) (λ none. both_ways true (c.in-Some.ensures.there.1 none) refl) in
    oldest_there c.args.lists.now c.loop-list.list-index c.args.number o (omega arith) c.list-item.is c.loop-list.invariant there

pub returns-in-Some-clause-found : goal.returns-in-Some-clause-found
returns-in-Some-clause-found c = c.in-Some.ensures.found ∙ sym (found c).0

pub returns-in-Some-clause-there : goal.returns-in-Some-clause-there
returns-in-Some-clause-there c =
    (λ e. absurd (both_ways true e refl), λ e. absurd (both_ways (is_listed (olds_of c.args.lists.now) c.args.number) e (found c).1))
