use Rattle.std.proofs.Common.{◌≡◌, ◌∙◌, ◌++◌, ◌<◌, ◌^◌, sym, ap, subst, ℕ, List, All, length}
use Rattle.std.proofs.lemmas.List.Elements.{All-from_get_or}
use Rattle.pir_schemes.specs.declared.plan.Plan.{Plan}
use Rattle.pir_schemes.specs.Plans.{slot}
use Rattle.pir_schemes.proofs.Quiet.{slot_is_record}
use Rattle.snapshot_file.specs.declared.snapshot.Header.{Header}
use Rattle.snapshot_file.specs.Snapshots.{header_of}
use Rattle.version_store.specs.Openings.{IsSound, plan_held, records_for}
use Rattle.version_store.proofs.RecordsPut.{plan_is, one_more, record_added, sound_added}
use Rattle.log_replay.proofs.held.SnapshotRecordHolder.append.Goals as goal

module _ (c : goal.After-self-1) where
  abbrev h : Header
  h = header_of c.args.self.now

  abbrev old : List ℕ
  old = c.args.self.now.records.items

  -- the record's slot was put after the others
  put : c.extend_from_slice.new.self.items ≡ old ++ slot (plan_held h) c.args.record_bytes.now
  put =
      c.in_ok-extend_from_slice.ensures.items
      ∙ ap (λ (s : List ℕ). old ++ s) (c.fill.ensures ∙ ap (λ (p : Plan). slot p c.args.record_bytes.now) c.plan_in-plan.ensures)

  size : length (slot (plan_held h) c.args.record_bytes.now) ≡ h.record_len
  size =
      let small : All (λ x. x < 2 ^ 8) c.args.record_bytes.now =
      All-from_get_or (λ x. x < 2 ^ 8) c.args.record_bytes.now 0 (λ i _. (c.type_inv.record_bytes i).fits) in
      (slot_is_record (plan_held h) h.count c.args.record_bytes.now (plan_is h old c.requires.sound) (record { fits = c.requires.fits; each = small })).len

pub returns-clause-sound : goal.returns-clause-sound
returns-clause-sound c =
    subst (IsSound (one_more (h c))) (sym (put c))
    (sound_added (h c) (old c) c.args.record_bytes.now c.requires.sound c.requires.layout c.requires.fits (size c))

pub returns-clause-records : goal.returns-clause-records
returns-clause-records c =
    ap (records_for (one_more (h c))) (put c)
    ∙ record_added (h c) (old c) c.args.record_bytes.now c.requires.sound c.requires.layout c.requires.fits (size c)
