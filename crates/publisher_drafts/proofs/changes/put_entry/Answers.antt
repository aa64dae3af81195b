use Rattle.std.proofs.Common.{◌∙◌, sym, ap, ℕ, List}
use Rattle.publication_log.specs.Publications.{Placed}
use Rattle.publisher_drafts.specs.Merging.{changes_of_map, merged_change, merged}
use Rattle.log_replay.proofs.ChangeLemmas.{splits, none_left}
use Rattle.publisher_drafts.proofs.Maps.{placed}
use Rattle.publisher_drafts.proofs.changes.put_entry.Goals as goal

pub changes-preserved : goal.changes-preserved
changes-preserved c = λ low cs each e.
    let it = c.changes.invariant low cs each e in
    let split = splits c.changes.left.rest.now it.0 c.in-Some.change.place c.in-Some.change.bytes.now c.in-Some.rest.rest.now it.1 c.in-Some.ensures.some
    (λ none. absurd (let bad = c.in-Some.ensures.none none in cc)) in
    let before : List Placed = changes_of_map c.changes.changes.entries in (
      split.others,
      split.others_are,
      it.2
          ∙ ap (λ (x : List Placed). merged before x) split.all
          ∙ ap (λ (bytes : List ℕ). merged (merged_change (placed c.in-Some.change.place bytes) before) split.others) (sym c.in_ok-bytes.ensures.items)
          ∙ ap (λ (x : List Placed). merged x split.others) (sym c.in_ok-put_change.ensures.put),
    )

pub returns : goal.returns
returns c = λ low cs each e.
    let it = c.changes.invariant low cs each e in
    let none = none_left c.changes.left.rest.now it.0 it.1 c.in_default.ensures.some in
    sym (it.2 ∙ ap (λ (x : List Placed). merged (changes_of_map c.changes.changes.entries) x) none)
