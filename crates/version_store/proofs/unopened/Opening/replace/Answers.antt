use Rattle.std.proofs.Common.{◌≡◌, ◌∙◌, sym, ap, subst, ℕ, List, true}
use Rattle.std.specs.Prelude.{slice_set}
use Rattle.digit_pack.specs.Layout.{Shape, records_in}
use Rattle.pir_schemes.specs.declared.plan.Plan.{Plan}
use Rattle.pir_schemes.specs.Plans.{fits, slot}
use Rattle.snapshot_file.specs.Snapshots.{shape_of}
use Rattle.version_store.specs.HeldRecords.{bytes_held_by, HasShape}
use Rattle.version_store.specs.Openings.{Unopened, plan_held, records_for}
use Rattle.version_store.proofs.RecordsPut.{record_put, sound_put}
use Rattle.version_store.proofs.unopened.Opening.replace.Goals as goal

module _ (c : goal.After-slot-2-1) where
  plan : c.plan-plan.result ≡ plan_held c.self.inside.header
  plan = c.plan-plan.ensures ∙ ap (λ (o : Unopened). plan_held o.header) (sym c.self.view_is)

  sizes : c.unwrap-layout.result ≡ shape_of c.self.inside.header
  sizes = let ok = rw c.unwrap-layout.ensures at c.layout.ensures.accepted in ok.0

  room : fits (plan_held c.self.inside.header) c.args.bytes.now ≡ true
  room = ap (λ (o : Unopened). fits (plan_held o.header) c.args.bytes.now) c.self.view_is ∙ c.requires.fits

  written : records_in c.unwrap-layout.result (bytes_held_by c.replace.new.self)
      ≡ slice_set (records_in c.unwrap-layout.result (bytes_held_by c.self.inside.held)) c.args.i (slot (plan_held c.self.inside.header) c.args.bytes.now)
  written =
      c.replace.ensures.records
      ∙ ap (λ (s : List ℕ). slice_set (records_in c.unwrap-layout.result (bytes_held_by c.self.inside.held)) c.args.i s)
      (c.fill.ensures ∙ ap (λ (p : Plan). slot p c.args.bytes.now) plan)

pub invariant_of-self : goal.invariant_of-self
invariant_of-self c = record {
  sound = sound_put c.self.inside.header (bytes_held_by c.self.inside.held) (bytes_held_by c.replace.new.self) c.unwrap-layout.result c.args.i c.args.bytes.now
      c.self.invariant.sound (sizes c) (room c) (written c) c.replace.ensures.same_len;
  kind = c.replace.ensures.kind ∙ c.self.invariant.kind;
  shape = subst (λ (s : Shape). HasShape s c.replace.new.self) (sizes c) c.replace.ensures.shape;
}

pub returns-clause-records : goal.returns-clause-records
returns-clause-records c =
    record_put c.self.inside.header (bytes_held_by c.self.inside.held) (bytes_held_by c.replace.new.self) c.unwrap-layout.result c.args.i c.args.bytes.now
    c.self.invariant.sound (sizes c) (room c) (written c)
    ∙ ap (λ (o : Unopened). slice_set (records_for o.header o.bytes) c.args.i c.args.bytes.now) c.self.view_is
