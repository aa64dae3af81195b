use Rattle.std.proofs.Common.{◌∙◌, sym, ap, List, length}
use Rattle.publication_log.specs.Publications.{Placed}
use Rattle.version_store.specs.Histories.{StoreState, held_after}
use Rattle.log_replay.specs.Replays.{edits_and_appends}
use Rattle.log_replay.proofs.ChangeLemmas.{splits, none_left, held_change, held_first}
use Rattle.log_replay.proofs.replaying.make_changes.Goals as goal

pub changes-preserved : goal.changes-preserved
unfolding held_change
changes-preserved g c = λ low cs each e.
    let it = c.changes.invariant low cs each e in
    let first : Placed = record { place = c.in-Some.change.place; bytes = c.in-Some.change.bytes.now } in
    let split = splits c.changes.left.rest.now it.0 c.in-Some.change.place c.in-Some.change.bytes.now c.in-Some.rest.rest.now it.1 c.in-Some.ensures.some
    (λ none. absurd (let bad = c.in-Some.ensures.none none in cc)) in (
      split.others,
      split.others_are,
      it.2
          ∙ ap (λ (x : List Placed). held_after (edits_and_appends (length c.changes.store.draft) x) c.changes.store) split.all
          ∙ held_first c.changes.store first split.others
          ∙ ap (λ (s : StoreState). held_after (edits_and_appends (length s.draft) split.others) s) (sym c.in_ok-make_change.ensures),
    )

pub returns : goal.returns
returns g c = λ low cs each e.
    let it = c.changes.invariant low cs each e in
    let none = none_left c.changes.left.rest.now it.0 it.1 c.in_default.ensures.some in
    sym (it.2 ∙ ap (λ (x : List Placed). held_after (edits_and_appends (length c.changes.store.draft) x) c.changes.store) none)
