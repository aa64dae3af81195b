use Rattle.std.proofs.Common.{◌∙◌, sym, ap, ℕ, List}
use Rattle.publication_log.specs.Publications.{Placed}
use Rattle.snapshot_file.specs.declared.snapshot.Header.{Header}
use Rattle.version_store.specs.Openings.{plan_held, records_for}
use Rattle.log_replay.specs.Replays.{records_replayed}
use Rattle.log_replay.proofs.ChangeLemmas.{splits, none_left}
use Rattle.log_replay.proofs.RecordLemmas.{changed_to, still_counted}
use Rattle.log_replay.proofs.records.put_changes.Goals as goal

pub changes-preserved : goal.changes-preserved
changes-preserved g c =
    let h : Header = g.H.RecordHolder.header c.changes.held in
    let after : Header = g.H.RecordHolder.header c.put_change.new.held in
    let records : List (List ℕ) = records_for h (g.H.RecordHolder.bytes c.changes.held) in
    let changed = c.in_ok-put_change.ensures.put in
    record {
      plan = c.changes.invariant.plan ∙ sym (ap plan_held changed.header);
      sound = c.in_ok-put_change.ensures.sound;
      header = still_counted (g.H.RecordHolder.header c.args.held.now) h after _ c.changes.invariant.header changed.header;
      put = λ low cs each e.
          let it = c.changes.invariant.put low cs each e in
          let split = splits c.changes.left.rest.now it.0 c.in-Some.change.place c.in-Some.change.bytes.now c.in-Some.rest.rest.now it.1 c.in-Some.ensures.some
          (λ none. absurd (let bad = c.in-Some.ensures.none none in cc)) in (
            split.others,
            split.others_are,
            it.2
                ∙ ap (λ (x : List Placed). records_replayed records x) split.all
                ∙ ap (λ (rs : List (List ℕ)). records_replayed rs split.others) (sym changed.held),
          );
    }

pub returns-clause-put : goal.returns-clause-put
returns-clause-put g c = λ low cs each e.
    let it = c.changes.invariant.put low cs each e in
    let none = none_left c.changes.left.rest.now it.0 it.1 c.in_default.ensures.some in
    changed_to _ (g.H.RecordHolder.header c.changes.held) _ (g.H.RecordHolder.bytes c.changes.held) cs c.changes.invariant.header
    (sym (it.2 ∙ ap (λ (x : List Placed). records_replayed (records_for (g.H.RecordHolder.header c.changes.held) (g.H.RecordHolder.bytes c.changes.held)) x) none))
