use Rattle.std.proofs.Common.{◌≡◌, ◌∙◌, sym, ap, ℕ, List, true, false, Some, None, Bool}
use Rattle.std.specs.Prelude.{if◌then◌else◌, ◌&&◌}
use Rattle.publication_log.specs.Publications.{Placed}
use Rattle.log_replay.specs.Replays.{are_changes_of, count_after_all}
use Rattle.log_replay.proofs.ChangeLemmas.{splits, none_left, first_made, first_refused}
use Rattle.log_replay.proofs.judging.judge_changes.Goals as goal

pub changes-preserved : goal.changes-preserved
changes-preserved c = λ low cs each e.
    let it = c.changes.invariant low cs each e in
    let first : Placed = record { place = c.in-Some.change.place; bytes = c.in-Some.change.bytes.now } in
    let split = splits c.changes.left.rest.now it.0 c.in-Some.change.place c.in-Some.change.bytes.now c.in-Some.rest.rest.now it.1 c.in-Some.ensures.some
    (λ none. absurd (let bad = c.in-Some.ensures.none none in cc)) in (
      split.others,
      split.others_are,
      it.2
          ∙ ap (λ (x : List Placed). are_changes_of c.args.plan.now c.changes.after x) split.all
          ∙ first_made c.args.plan.now c.changes.after first split.others c.if-not-is_change_of.ensures
          ∙ ap (λ (n : ℕ). are_changes_of c.args.plan.now n split.others) (sym c.count_after-after.ensures),
      it.3
          ∙ ap (λ (x : List Placed). count_after_all c.changes.after x) split.all
          ∙ ap (λ (n : ℕ). count_after_all n split.others) (sym c.count_after-after.ensures),
    )

pub returns-then-not-is_change_of : goal.returns-then-not-is_change_of
returns-then-not-is_change_of c = λ low cs each e.
    let it = c.changes.invariant low cs each e in
    let first : Placed = record { place = c.in-Some.change.place; bytes = c.in-Some.change.bytes.now } in
    let split = splits c.changes.left.rest.now it.0 c.in-Some.change.place c.in-Some.change.bytes.now c.in-Some.rest.rest.now it.1 c.in-Some.ensures.some
    (λ none. absurd (let bad = c.in-Some.ensures.none none in cc)) in
    let refused : are_changes_of c.args.plan.now c.args.count cs ≡ false = it.2
    ∙ ap (λ (x : List Placed). are_changes_of c.args.plan.now c.changes.after x) split.all
    ∙ first_refused c.args.plan.now c.changes.after first split.others c.if-not-is_change_of.ensures in
    ap (λ (b : Bool). if b then Some (count_after_all c.args.count cs) else None) (sym refused)

pub returns : goal.returns
returns c = λ low cs each e.
    let it = c.changes.invariant low cs each e in
    let none = none_left c.changes.left.rest.now it.0 it.1 c.in_default.ensures.some in
    let made : are_changes_of c.args.plan.now c.args.count cs ≡ true = it.2 ∙ ap (λ (x : List Placed). are_changes_of c.args.plan.now c.changes.after x) none in
    let count : count_after_all c.args.count cs ≡ c.changes.after = it.3 ∙ ap (λ (x : List Placed). count_after_all c.changes.after x) none in
    ap (λ (n : ℕ). Some n) (sym count) ∙ ap (λ (b : Bool). if b then Some (count_after_all c.args.count cs) else None) (sym made)
