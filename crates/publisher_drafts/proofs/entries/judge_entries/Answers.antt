use Rattle.std.proofs.Common.{◌≡◌, ◌∙◌, sym, ap, ℕ, List, Bool, true, false, Some, None}
use Rattle.std.specs.Prelude.{if◌then◌else◌}
use Rattle.publication_log.specs.Publications.{Published}
use Rattle.log_replay.specs.Replays.{are_changes_of}
use Rattle.log_replay.proofs.ReplayLemmas.{splits_entries, no_entry_left}
use Rattle.log_replay.specs.Replays.{count_after_all}
use Rattle.publisher_drafts.specs.Merging.{are_entries_of, count_after_entries}
use Rattle.publisher_drafts.proofs.Verdicts.{some_from, none_from, first_entry_made, first_entry_refused}
use Rattle.publisher_drafts.proofs.entries.judge_entries.Goals as goal

pub entries-preserved : goal.entries-preserved
entries-preserved c = λ link version ps each e.
    let it = c.entries.invariant link version ps each e in
    let split = splits_entries c.entries.left.rest.now it.0 c.in-Some.entry c.in-Some.rest.rest.now it.1 c.in-Some.ensures.some
    (λ none. absurd (let bad = c.in-Some.ensures.none none in cc)) in
    let found = some_from (are_changes_of c.args.plan.now c.entries.after split.first.changes) c.in-Some-judge_changes.next (count_after_all c.entries.after split.first.changes)
    (c.in-Some-judge_changes.ensures 0 split.first.changes split.first_is.each.changes split.first_is.changes) in (
      split.others,
      split.others_are,
      it.2
          ∙ ap (λ (x : List Published). are_entries_of c.args.plan.now c.entries.after x) split.all
          ∙ first_entry_made c.args.plan.now c.entries.after split.first split.others found.0
          ∙ ap (λ (n : ℕ). are_entries_of c.args.plan.now n split.others) (sym found.1),
      it.3
          ∙ ap (λ (x : List Published). count_after_entries c.entries.after x) split.all
          ∙ ap (λ (n : ℕ). count_after_entries n split.others) (sym found.1),
    )

pub returns-in_default-judge_changes : goal.returns-in_default-judge_changes
returns-in_default-judge_changes c = λ link version ps each e.
    let it = c.entries.invariant link version ps each e in
    let split = splits_entries c.entries.left.rest.now it.0 c.in-Some.entry c.in-Some.rest.rest.now it.1 c.in-Some.ensures.some
    (λ none. absurd (let bad = c.in-Some.ensures.none none in cc)) in
    let refused = none_from (are_changes_of c.args.plan.now c.entries.after split.first.changes) (count_after_all c.entries.after split.first.changes)
    (c.in_default-judge_changes.ensures 0 split.first.changes split.first_is.each.changes split.first_is.changes) in
    let bad : are_entries_of c.args.plan.now c.args.count ps ≡ false = it.2
    ∙ ap (λ (x : List Published). are_entries_of c.args.plan.now c.entries.after x) split.all
    ∙ first_entry_refused c.args.plan.now c.entries.after split.first split.others refused in
    ap (λ (b : Bool). if b then Some (count_after_entries c.args.count ps) else None) (sym bad)

pub returns : goal.returns
returns c = λ link version ps each e.
    let it = c.entries.invariant link version ps each e in
    let none = no_entry_left c.entries.left.rest.now it.0 it.1 c.in_default.ensures.some in
    let good : are_entries_of c.args.plan.now c.args.count ps ≡ true = it.2 ∙ ap (λ (x : List Published). are_entries_of c.args.plan.now c.entries.after x) none in
    let count : count_after_entries c.args.count ps ≡ c.entries.after = it.3 ∙ ap (λ (x : List Published). count_after_entries c.entries.after x) none in
    ap (λ (n : ℕ). Some n) (sym count) ∙ ap (λ (b : Bool). if b then Some (count_after_entries c.args.count ps) else None) (sym good)
