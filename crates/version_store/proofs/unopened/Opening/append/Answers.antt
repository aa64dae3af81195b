use Rattle.std.proofs.Common.{◌≡◌, ◌∙◌, ◌+◌, ◌++◌, ◌∷◌, ◌<◌, ◌^◌, [], sym, ap, subst, ℕ, List, All, length, true}
use Rattle.std.proofs.lemmas.List.Elements.{All-from_get_or}
use Rattle.digit_pack.specs.Layout.{Shape, IsLayout}
use Rattle.pir_schemes.specs.declared.plan.Plan.{Plan}
use Rattle.pir_schemes.specs.Plans.{fits, shape_at, slot}
use Rattle.pir_schemes.proofs.Quiet.{slot_is_record}
use Rattle.snapshot_file.specs.Snapshots.{shape_of}
use Rattle.version_store.specs.HeldRecords.{bytes_held_by, HasShape}
use Rattle.version_store.specs.Openings.{Unopened, IsSound, plan_held, records_for}
use Rattle.version_store.proofs.RecordsPut.{plan_is, one_more, record_added, sound_added}
use Rattle.version_store.proofs.unopened.Opening.append.Goals as goal

module _ (c : goal.After-self-1) where
  plan : c.plan-plan.result ≡ plan_held c.self.inside.header
  plan = c.plan-plan.ensures ∙ ap (λ (o : Unopened). plan_held o.header) (sym c.self.view_is)

  -- the record's slot was put after the others
  put : bytes_held_by c.push.new.self ≡ bytes_held_by c.self.inside.held ++ slot (plan_held c.self.inside.header) c.args.bytes.now
  put =
      c.in_ok-push.ensures.put
      ∙ ap (λ (s : List ℕ). bytes_held_by c.self.inside.held ++ s) (c.fill.ensures ∙ ap (λ (p : Plan). slot p c.args.bytes.now) plan)

  room : fits (plan_held c.self.inside.header) c.args.bytes.now ≡ true
  room = ap (λ (o : Unopened). fits (plan_held o.header) c.args.bytes.now) c.self.view_is ∙ c.requires.fits

  layout : IsLayout (shape_at (plan_held c.self.inside.header) (c.self.inside.header.count + 1))
  layout = subst (λ (o : Unopened). IsLayout (shape_at (plan_held o.header) (o.header.count + 1))) (sym c.self.view_is) c.requires.layout

  size : length (slot (plan_held c.self.inside.header) c.args.bytes.now) ≡ c.self.inside.header.record_len
  size =
      let small : All (λ x. x < 2 ^ 8) c.args.bytes.now = All-from_get_or (λ x. x < 2 ^ 8) c.args.bytes.now 0 (λ i _. (c.type_inv.bytes i).fits) in
      (slot_is_record (plan_held c.self.inside.header) c.self.inside.header.count c.args.bytes.now
      (plan_is c.self.inside.header (bytes_held_by c.self.inside.held) c.self.invariant.sound) (record { fits = room; each = small })).len

  shape : HasShape (shape_of (one_more c.self.inside.header)) c.push.new.self
  shape =
      let ok = rw c.unwrap-layout.ensures at c.layout.ensures.accepted in
      let is : c.unwrap-layout.result ≡ shape_of (one_more c.self.inside.header) =
      ok.0
      ∙ ap (λ (p : Plan). shape_at p (c.count-count.result + 1)) plan
      ∙ ap (λ (n : ℕ). shape_at (plan_held c.self.inside.header) (n + 1)) (c.count-count.ensures ∙ ap (λ (o : Unopened). o.header.count) (sym c.self.view_is)) in
      subst (λ (s : Shape). HasShape s c.push.new.self) is c.in_ok-push.ensures.shape

pub invariant_of-self-2 : goal.invariant_of-self-2
invariant_of-self-2 c = record {
  sound = subst (IsSound (one_more c.self.inside.header)) (sym (put c))
      (sound_added c.self.inside.header (bytes_held_by c.self.inside.held) c.args.bytes.now c.self.invariant.sound (layout c) (room c) (size c));
  kind = c.push.ensures.kind ∙ c.self.invariant.kind;
  shape = shape c;
}

pub returns-clause-records : goal.returns-clause-records
returns-clause-records c =
    ap (records_for (one_more c.self.inside.header)) (put c)
    ∙ record_added c.self.inside.header (bytes_held_by c.self.inside.held) c.args.bytes.now c.self.invariant.sound (layout c) (room c) (size c)
    ∙ ap (λ (o : Unopened). records_for o.header o.bytes ++ c.args.bytes.now ∷ []) c.self.view_is
