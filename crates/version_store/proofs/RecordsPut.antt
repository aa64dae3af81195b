-- A snapshot's record bytes with one record replaced, or with one more.
use Rattle.std.proofs.Common.{◌≡◌, ◌∙◌, ℕ, ◌+◌, ◌≤◌, List, [], ◌∷◌, ◌++◌, Bool, true, length, map, slice_set, refl, sym, ap, subst, arith}
use Rattle.std.specs.List.{list_all}
use Rattle.std.proofs.lemmas.Bool.{and_from, and_parts}
use Rattle.std.proofs.lemmas.List.{length-append, map-append}
use Rattle.digit_pack.specs.Layout.{Shape, IsLayout, records_in}
use Rattle.pir_schemes.specs.Plans.{IsPlan, shape_at, fits, slot, is_slot_of, content}
use Rattle.pir_schemes.proofs.Quiet.{slot_holds}
use Rattle.pir_schemes.proofs.SlotLists.{all_slots}
use Rattle.snapshot_file.specs.declared.snapshot.Header.{Header}
use Rattle.snapshot_file.specs.Snapshots.{shape_of, has_slots}
use Rattle.snapshot_file.proofs.Received.{one_after}
use Rattle.version_store.specs.Openings.{IsSound, plan_held, records_for}
use Rattle.version_store.proofs.Slotted.{held_replaced, good_again, held_slots}

pub all_push : (f : List ℕ → Bool) (xs : List (List ℕ)) (y : List ℕ) → list_all f xs ≡ true → f y ≡ true → list_all f (xs ++ y ∷ []) ≡ true
all_push f [] y all last = and_from _ _ last refl
all_push f (x ∷ xs) y all last =
    let parts = and_parts _ _ all in
    and_from _ _ parts.0 (all_push f xs y parts.1 last)

pub plan_is : (h : Header) (old : List ℕ) → IsSound h old → IsPlan (plan_held h) h.count
plan_is h old sound = record { form = sound.sizes.form; layout = sound.sizes.layout; low = sound.sizes.low; high = sound.sizes.high }

-- ---- one record is replaced

module _ (h : Header) (old new : List ℕ) (l : Shape) (i : ℕ) (bytes : List ℕ) (sound : IsSound h old) (sizes : l ≡ shape_at (plan_held h) h.count)
    (room : fits (plan_held h) bytes ≡ true) (written : records_in l new ≡ slice_set (records_in l old) i (slot (plan_held h) bytes)) where
  here : records_in (shape_of h) new ≡ slice_set (records_in (shape_of h) old) i (slot (plan_held h) bytes)
  here = subst (λ (s : Shape). records_in s new ≡ slice_set (records_in s old) i (slot (plan_held h) bytes)) sizes written

  pub record_put : records_for h new ≡ slice_set (records_for h old) i bytes
  record_put = held_replaced (plan_held h) (shape_of h) old new i bytes (plan_is h old sound) refl room here

  pub sound_put : length new ≡ length old → IsSound h new
  unfolding has_slots
  sound_put long = record {
    sizes = sound.sizes;
    version = sound.version;
    len = long ∙ sound.len;
    slots = sym (all_slots (plan_held h) (records_in (shape_of h) new))
        ∙ good_again (plan_held h) (shape_of h) old new i bytes (plan_is h old sound) refl room here (held_slots h old sound.slots);
  }

-- ---- one record more

-- the fields of as many records and one more
abbrev pub one_more : Header → Header
one_more h = record h { count = h.count + 1 }

module _ (h : Header) (old bytes : List ℕ) (sound : IsSound h old) (layout : IsLayout (shape_at (plan_held h) (h.count + 1)))
    (room : fits (plan_held h) bytes ≡ true) (size : length (slot (plan_held h) bytes) ≡ h.record_len) where
  added : records_in (shape_of (one_more h)) (old ++ slot (plan_held h) bytes) ≡ records_in (shape_of h) old ++ slot (plan_held h) bytes ∷ []
  added = one_after (shape_of h) (shape_of (one_more h)) old (slot (plan_held h) bytes) refl refl sound.len size

  pub record_added : records_for (one_more h) (old ++ slot (plan_held h) bytes) ≡ records_for h old ++ bytes ∷ []
  record_added =
      ap (map (content (plan_held h))) added
      ∙ map-append (content (plan_held h)) (records_in (shape_of h) old) (slot (plan_held h) bytes ∷ [])
      ∙ ap (λ (b : List ℕ). records_for h old ++ b ∷ []) (slot_holds (plan_held h) h.count bytes (plan_is h old sound) room).1

  pub sound_added : IsSound (one_more h) (old ++ slot (plan_held h) bytes)
  unfolding has_slots
  sound_added = record {
    sizes = record { form = sound.sizes.form; layout = layout; low = sound.sizes.low; high = sound.sizes.high };
    version = sound.version;
    len = omega (arith, length-append old (slot (plan_held h) bytes), sound.len, size);
    slots = sym (all_slots (plan_held h) (records_in (shape_of (one_more h)) (old ++ slot (plan_held h) bytes)))
        ∙ ap (list_all (is_slot_of (plan_held h))) added
        ∙ all_push (is_slot_of (plan_held h)) (records_in (shape_of h) old) (slot (plan_held h) bytes) (held_slots h old sound.slots)
        (slot_holds (plan_held h) h.count bytes (plan_is h old sound) room).0;
  }

-- ---- another version

pub sound_version : (h : Header) (bytes : List ℕ) (version : ℕ) → 1 ≤ version → IsSound h bytes → IsSound (record h { version = version }) bytes
unfolding has_slots
sound_version h bytes version some sound = record {
  sizes = record { form = sound.sizes.form; layout = sound.sizes.layout; low = sound.sizes.low; high = sound.sizes.high };
  version = some;
  len = sound.len;
  slots = sound.slots;
}
