use Rattle.std.proofs.Common.{◌≡◌, refl, sym, ◌∙◌, false, true}
use Rattle.publisher_drafts.specs.Merging.{are_entries_of, count_after_entries}
use Rattle.publisher_drafts.proofs.Verdicts.{some_from, none_from}
use Rattle.publisher_drafts.proofs.entries.merge_entries.Goals as goal

pub returns-in_default-clause-bad : goal.returns-in_default-clause-bad
returns-in_default-clause-bad c = λ link version ps each e. (
  λ is. none_from (are_entries_of c.args.plan.now c.args.count ps) (count_after_entries c.args.count ps) (c.in_default.ensures link version ps each e),
  λ bad. refl,
)

pub returns-in_default-merged_of-clause-bad : goal.returns-in_default-merged_of-clause-bad
returns-in_default-merged_of-clause-bad c = λ link version ps each e.
    let found = some_from (are_entries_of c.args.plan.now c.args.count ps) c.in-Some.count (count_after_entries c.args.count ps) (c.in-Some.ensures link version ps each e) in
    let good = found.0 in (λ is. absurd cc, λ bad. absurd cc)

pub returns-clause-merged : goal.returns-clause-merged
returns-clause-merged c = λ link version ps each e.
    let found = some_from (are_entries_of c.args.plan.now c.args.count ps) c.in-Some.count (count_after_entries c.args.count ps) (c.in-Some.ensures link version ps each e) in
    (c.in-Ok.ensures link version ps each e, found.1)

pub returns-clause-good : goal.returns-clause-good
returns-clause-good c = λ link version ps each e.
    (some_from (are_entries_of c.args.plan.now c.args.count ps) c.in-Some.count (count_after_entries c.args.count ps) (c.in-Some.ensures link version ps each e)).0

pub returns-clause-bad : goal.returns-clause-bad
returns-clause-bad c = λ link version ps each e.
    let found = some_from (are_entries_of c.args.plan.now c.args.count ps) c.in-Some.count (count_after_entries c.args.count ps) (c.in-Some.ensures link version ps each e) in
    let good = found.0 in (λ is. absurd cc, λ bad. absurd cc)
