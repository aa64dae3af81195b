-- A record that is read of a snapshot's bytes.
use Rattle.std.proofs.Common.{◌≡◌, ◌<◌, ◌∙◌, sym, ap, refl, ℕ, List, true}
use Rattle.digit_pack.specs.Layout.{Shape, record_at, records_in}
use Rattle.pir_schemes.specs.declared.plan.Plan.{Plan}
use Rattle.pir_schemes.specs.Plans.{shape_at, content, is_slot_of}
use Rattle.snapshot_file.specs.declared.snapshot.Header.{Header}
use Rattle.snapshot_file.specs.Snapshots.{shape_of, has_slots}
use Rattle.version_store.specs.Openings.{plan_held, records_for}
use Rattle.version_store.proofs.Slotted.{slot_at, held_at, held_slots}

module _ (h : Header) (bytes given : List ℕ) (p : Plan) (l : Shape) (i : ℕ) (plan : p ≡ plan_held h) (sizes : l ≡ shape_at p h.count) (same : given ≡ bytes) (inside : i < h.count) where
  shape : l ≡ shape_of h
  shape = sizes ∙ ap (λ (q : Plan). shape_at q h.count) plan

  read_is : record_at (records_in l given) i ≡ record_at (records_in (shape_of h) bytes) i
  read_is = ap (λ (s : Shape). record_at (records_in s given) i) shape ∙ ap (λ (b : List ℕ). record_at (records_in (shape_of h) b) i) same

  pub is_slot_there : has_slots h bytes ≡ true → is_slot_of p (record_at (records_in l given) i) ≡ true
  is_slot_there good =
      ap (λ (q : Plan). is_slot_of q (record_at (records_in l given) i)) plan
      ∙ ap (is_slot_of (plan_held h)) read_is
      ∙ slot_at (plan_held h) (shape_of h) bytes i (held_slots h bytes good) inside

  pub content_is : content p (record_at (records_in l given) i) ≡ record_at (records_for h bytes) i
  content_is =
      ap (λ (q : Plan). content q (record_at (records_in l given) i)) plan
      ∙ ap (content (plan_held h)) read_is
      ∙ sym (held_at (plan_held h) (shape_of h) bytes i refl inside)
