use Rattle.std.proofs.Common.{◌∙◌, sym, ap, List, ◌∷◌}
use Rattle.publication_log.specs.Publications.{Placed, Published}
use Rattle.publisher_drafts.specs.Merging.{changes_of_map, merged_all}
use Rattle.log_replay.proofs.ReplayLemmas.{splits_entries, no_entry_left}
use Rattle.publisher_drafts.proofs.entries.merged_of.Goals as goal

pub entries-preserved : goal.entries-preserved
entries-preserved c = λ link version ps each e.
    let it = c.entries.invariant link version ps each e in
    let split = splits_entries c.entries.left.rest.now it.0 c.in-Some.entry c.in-Some.rest.rest.now it.1 c.in-Some.ensures.some
    (λ none. absurd (let bad = c.in-Some.ensures.none none in cc)) in (
      split.others,
      split.others_are,
      it.2
          ∙ ap (λ (x : List Published). merged_all (changes_of_map c.entries.changes.entries) x) split.all
          ∙ ap (λ (x : List Placed). merged_all x split.others)
          (sym (c.in_ok-put_entry.ensures 0 split.first.changes split.first_is.each.changes split.first_is.changes)),
    )

pub returns : goal.returns
returns c = λ link version ps each e.
    let it = c.entries.invariant link version ps each e in
    let none = no_entry_left c.entries.left.rest.now it.0 it.1 c.in_default.ensures.some in
    sym (it.2 ∙ ap (λ (x : List Published). merged_all (changes_of_map c.entries.changes.entries) x) none)
