use Rattle.std.proofs.Common.{◌≡◌, ◌∙◌, sym, ap, List, true, subst, inl, inr}
use Rattle.std.proofs.lemmas.Bool.{cases_Bool}
use Rattle.publication_log.specs.Publications.{Published}
use Rattle.version_store.specs.Histories.{StoreState, StandsFor}
use Rattle.log_replay.specs.Replays.{replayed_all, history_replayed_all, is_next_of, are_next_of}
use Rattle.log_replay.proofs.ReplayLemmas.{splits_entries, no_entry_left, all_stand, first_follows, first_refused}
use Rattle.log_replay.proofs.replaying.replay_all.Goals as goal

pub publications-preserved : goal.publications-preserved
publications-preserved g c = (
  c.in_default-replay.ensures.undrafted,
  λ link version ps each e.
      let it = c.publications.invariant.1 link version ps each e in
      let split = splits_entries c.publications.left.rest.now it.0 c.in-Some.publication c.in-Some.rest.rest.now it.1 c.in-Some.ensures.some
      (λ none. absurd (let bad = c.in-Some.ensures.none none in cc)) in
      let done = c.in_default-replay.ensures.replayed split.first split.first_is in
      let follows : is_next_of c.publications.store split.first ≡ true = elim (cases_Bool (is_next_of c.publications.store split.first)) [
        | inl next ↦ next
        | inr other ↦ absurd (let wrong = (c.in_default-replay.ensures.bad split.first split.first_is).1 other in cc)
      ] in (
        split.others,
        split.others_are,
        it.2
            ∙ ap (λ (x : List Published). replayed_all x c.publications.store) split.all
            ∙ ap (λ (s : StoreState). replayed_all split.others s) (sym done),
        it.3
            ∙ ap (λ (x : List Published). are_next_of c.publications.store x) split.all
            ∙ first_follows c.publications.store split.first split.others follows
            ∙ ap (λ (s : StoreState). are_next_of s split.others) (sym done),
      ),
)

pub returns-in-Err-clause-bad : goal.returns-in-Err-clause-bad
returns-in-Err-clause-bad g c = λ link version ps each e bad.
    let it = c.publications.invariant.1 link version ps each e in
    let split = splits_entries c.publications.left.rest.now it.0 c.in-Some.publication c.in-Some.rest.rest.now it.1 c.in-Some.ensures.some
    (λ none. absurd (let bad = c.in-Some.ensures.none none in cc)) in
    it.3
    ∙ ap (λ (x : List Published). are_next_of c.publications.store x) split.all
    ∙ first_refused c.publications.store split.first split.others ((c.in-Err.ensures.bad split.first split.first_is).0 bad)

pub returns-clause-replayed : goal.returns-clause-replayed
returns-clause-replayed g c = λ link version ps each e.
    let it = c.publications.invariant.1 link version ps each e in
    let none = no_entry_left c.publications.left.rest.now it.0 it.1 c.in_default.ensures.some in
    sym (it.2 ∙ ap (λ (x : List Published). replayed_all x c.publications.store) none)

pub returns-clause-history : goal.returns-clause-history
returns-clause-history g c = λ link version ps each e h stands.
    subst (λ (s : StoreState). StandsFor s (history_replayed_all ps h)) (sym (returns-clause-replayed g c link version ps each e))
    (all_stand ps c.args.store.now h stands)

pub returns-clause-good : goal.returns-clause-good
returns-clause-good g c = λ link version ps each e.
    let it = c.publications.invariant.1 link version ps each e in
    let none = no_entry_left c.publications.left.rest.now it.0 it.1 c.in_default.ensures.some in
    it.3 ∙ ap (λ (x : List Published). are_next_of c.publications.store x) none
