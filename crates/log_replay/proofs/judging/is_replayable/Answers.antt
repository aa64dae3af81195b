use Rattle.std.proofs.Common.{◌≡◌, ◌∙◌, ℕ, Bool, true, false, Some, None, refl, sym, ap}
use Rattle.std.specs.Prelude.{is_some, if◌then◌else◌}
use Rattle.publication_log.specs.Publications.{changes_bytes}
use Rattle.log_replay.specs.Replays.{are_changes_of, count_after_all}
use Rattle.log_replay.proofs.ChangeLemmas.{none_left, other_version, no_change, changes_decide}
use Rattle.log_replay.proofs.judging.is_replayable.Goals as goal

-- there is a number if it is given by a test that holds, and only then
is_some_if : (b : Bool) (n : ℕ) → is_some (if b then Some n else None) ≡ b
is_some_if true n = refl
is_some_if false n = refl

pub returns-then-not-is_next-clause-decided : goal.returns-then-not-is_next-clause-decided
returns-then-not-is_next-clause-decided c = λ p is.
    sym (other_version c.args.plan.now c.args.version c.args.count p
    (λ e. absurd (let yes = c.is_next.ensures.1 (is.version ∙ e) in let no = c.if-not-is_next.true in cc)))

pub returns-in_default-clause-decided : goal.returns-in_default-clause-decided
returns-in_default-clause-decided c = λ p is.
    let none = none_left c.args.publication.changes.rest.now p.changes (record { low = 0; each = is.each.changes; bytes_are = is.changes }) c.in_default.ensures.some in
    sym (no_change c.args.plan.now c.args.version c.args.count p none)

pub returns-clause-decided : goal.returns-clause-decided
returns-clause-decided c = λ p is.
    let next = sym is.version ∙ c.is_next.ensures.0 c.if-not-is_next.false in
    c.is_some.ensures
    ∙ ap is_some (c.judge_changes.ensures 0 p.changes is.each.changes is.changes)
    ∙ is_some_if (are_changes_of c.args.plan.now c.args.count p.changes) (count_after_all c.args.count p.changes)
    ∙ sym (changes_decide c.args.plan.now c.args.version c.args.count p next
    (λ none. absurd (let bad = c.in-Some.ensures.none (is.changes ∙ ap changes_bytes none) in cc)))
