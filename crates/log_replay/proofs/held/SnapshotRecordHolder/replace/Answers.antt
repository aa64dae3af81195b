use Rattle.std.proofs.Common.{◌≡◌, ◌∙◌, sym, ap, subst, ℕ, List, length}
use Rattle.std.specs.Prelude.{slice_set}
use Rattle.std.proofs.lemmas.List.{with_items_is}
use Rattle.digit_pack.specs.Layout.{Shape, records_in}
use Rattle.pir_schemes.specs.declared.plan.Plan.{Plan}
use Rattle.pir_schemes.specs.Plans.{shape_at, slot}
use Rattle.snapshot_file.specs.declared.snapshot.Header.{Header}
use Rattle.snapshot_file.specs.Snapshots.{header_of}
use Rattle.version_store.specs.Openings.{IsSound, plan_held, records_for}
use Rattle.version_store.proofs.RecordsPut.{record_put, sound_put}
use Rattle.log_replay.proofs.held.SnapshotRecordHolder.replace.Goals as goal

module _ (c : goal.After-self-1) where
  abbrev h : Header
  h = header_of c.args.self.now

  abbrev old : List ℕ
  old = c.args.self.now.records.items

  long : length c.write.new.bytes ≡ length old
  long = c.write.auto.bytes ∙ ap (λ (xs : List ℕ). length xs) c.deref_mut.ensures.value

  -- as many bytes as before
  back : length c.write.new.bytes ≡ c.args.self.now.records.len
  back = long ∙ sym c.args.self.now.records.ok.0

  sizes : c.unwrap-layout.result ≡ shape_at (plan_held h) h.count
  sizes =
      let ok = rw c.unwrap-layout.ensures at c.layout.ensures.accepted in
      ok.0 ∙ ap (λ (p : Plan). shape_at p h.count) c.plan_in-plan.ensures

  written : records_in c.unwrap-layout.result c.write.new.bytes ≡ slice_set (records_in c.unwrap-layout.result old) c.args.i (slot (plan_held h) c.args.record_bytes.now)
  written =
      let l : Shape = c.unwrap-layout.result in
      c.write.ensures
      ∙ ap (λ (b : List ℕ). slice_set (records_in l b) c.args.i (slot c.plan_in-plan.result c.args.record_bytes.now)) c.deref_mut.ensures.value
      ∙ ap (λ (p : Plan). slice_set (records_in l old) c.args.i (slot p c.args.record_bytes.now)) c.plan_in-plan.ensures

pub returns-clause-sound : goal.returns-clause-sound
returns-clause-sound c =
    subst (IsSound (h c)) (sym (with_items_is c.args.self.now.records c.write.new.bytes (back c)))
    (sound_put (h c) (old c) c.write.new.bytes c.unwrap-layout.result c.args.i c.args.record_bytes.now c.requires.sound (sizes c) c.requires.fits (written c)
    (long c))

pub returns-clause-records : goal.returns-clause-records
returns-clause-records c =
    ap (records_for (h c)) (with_items_is c.args.self.now.records c.write.new.bytes (back c))
    ∙ record_put (h c) (old c) c.write.new.bytes c.unwrap-layout.result c.args.i c.args.record_bytes.now c.requires.sound (sizes c) c.requires.fits (written c)
