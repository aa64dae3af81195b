-- Records that were moved into slots, or into a wide store.
use Rattle.std.proofs.Common.{◌≡◌, Bool, ◌∙◌, ◌≤◌, ◌<◌, ◌+◌, ◌^◌, ℕ, suc, List, [], ◌∷◌, true, cond, length, map, refl, sym, ap, arith}
use Rattle.std.specs.List.{list_all}
use Rattle.std.proofs.lemmas.Bool.{and_from}
use Rattle.digit_pack.specs.Layout.{record_at, records_in}
use Rattle.digit_pack.specs.Slots.{is_slot, slot_of, content_of}
use Rattle.digit_pack.proofs.FormLemmas.{plain_is, next_is_slotted, next_is_form, wide_is_slotted, wide_is_form}
use Rattle.digit_pack.proofs.SlotLemmas.{fills_and_reads}
use Rattle.pir_schemes.specs.declared.plan.Plan.{Plan}
use Rattle.pir_schemes.specs.Plans.{content}
use Rattle.snapshot_file.specs.Migrations.{IsPlainForm, in_slots}
use Rattle.snapshot_file.specs.Snapshots.{shape_of, has_slots}
use Rattle.version_store.specs.Laws.{MigratedRecordsStay, WidenedRecordsStay}
use Rattle.version_store.specs.Openings.{plan_held}
use Rattle.version_store.proofs.Slotted.{record_len_is}
use Rattle.version_store.proofs.Versions.{long_records}

-- slots that records fill are slots, and hold them
each_in_slot : (len : ℕ) (xs : List (List ℕ)) → ((k : ℕ) → k < length xs → length (record_at xs k) + 2 ≤ len) → len < 2 ^ 16 →
    (list_all is_slot (map (slot_of len) xs) ≡ true) × (map content_of (map (slot_of len) xs) ≡ xs)
each_in_slot len [] room few = (refl, refl)
each_in_slot len (x ∷ xs) room few =
    let fills = fills_and_reads len x (room 0 (omega arith)) (omega (arith, room 0 (omega arith), few)) in
    let rest = each_in_slot len xs (λ k lt. room (suc k) (omega arith)) few in (
      and_from (is_slot (slot_of len x)) (list_all is_slot (map (slot_of len) xs)) fills.accepted rest.0,
      rw fills.same (ap (λ (ys : List (List ℕ)). x ∷ ys) rest.1),
    )

-- if all records have one length, their bytes are the records
contents_of_plain : (p : Plan) → IsPlainForm p.form → (xs : List (List ℕ)) → map (content p) xs ≡ xs
unfolding content
contents_of_plain p plain [] = refl
contents_of_plain p plain (x ∷ xs) =
    rw (plain_is p.form plain) (ap (λ (ys : List (List ℕ)). x ∷ ys) (contents_of_plain p plain xs))

pub migrated_records_stay : MigratedRecordsStay
unfolding has_slots content
migrated_records_stay h records moved sound plain layout slots =
    let rs : List (List ℕ) = records_in (shape_of h) records in
    let wide : ℕ = h.record_len + 2 in
    let few : wide < 2 ^ 16 = omega (arith, layout.record_len.1) in
    let each = each_in_slot wide rs
    (λ k lt. omega (arith, record_len_is (plan_held h) (shape_of h) records refl sound.len k (omega (arith, lt, long_records (shape_of h) records)))) few in (
      record {
        sizes = record { form = next_is_form h.form h.record_len plain; layout = layout; low = sound.sizes.low; high = sound.sizes.high };
        version = sound.version;
        len = slots.len;
        slots = ap (λ (b : Bool). cond b (list_all is_slot (records_in (shape_of (in_slots h)) moved)) true) (next_is_slotted h.form plain)
            ∙ ap (list_all is_slot) slots.each ∙ each.0;
      },
      ap (λ (b : Bool). map (λ (x : List ℕ). cond b (content_of x) x) (records_in (shape_of (in_slots h)) moved)) (next_is_slotted h.form plain)
          ∙ ap (map content_of) slots.each ∙ each.1 ∙ sym (contents_of_plain (plan_held h) plain rs),
    )

pub widened_records_stay : WidenedRecordsStay
unfolding has_slots content
widened_records_stay h seed records sound form layout = (
  record {
    sizes = record { form = wide_is_form h.form h.record_len form sound.sizes.form; layout = layout; low = sound.sizes.low; high = sound.sizes.high };
    version = sound.version;
    len = sound.len;
    slots = ap (λ (b : Bool). cond b (list_all is_slot (records_in (shape_of h) records)) true) (wide_is_slotted h.form form) ∙ sound.slots;
  },
  ap (λ (b : Bool). map (λ (x : List ℕ). cond b (content_of x) x) (records_in (shape_of h) records)) (wide_is_slotted h.form form),
)
