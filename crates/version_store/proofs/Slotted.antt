-- Records, and the bytes that they have in the digits.
use Rattle.std.proofs.Common.{◌≡◌, ◌∙◌, ℕ, suc, ◌+◌, ◌*◌, ◌^◌, ◌<◌, ◌≤◌, ◌==◌, List, [], ◌∷◌, All, Bool, true, false, cond, length, take, drop, map, slice_set, refl, sym, ap, arith}
use Rattle.std.specs.Prelude.{nat_le, nat_eq}
use Rattle.std.specs.Int.{w16, from_le_bytes}
use Rattle.std.specs.List.{list_all}
use Rattle.std.proofs.lemmas.Bool.{and_parts, eq-eqb, leb-true, le-leb}
use Rattle.std.proofs.lemmas.Nat.{row_fits}
use Rattle.std.proofs.lemmas.List.{length-take-le, length-drop, map-set, get_or-map}
use Rattle.std.proofs.lemmas.List.Elements.{All-drop, All-get_or, All-set, All-take}
use Rattle.std.proofs.lemmas.List.Sums.{AllPass-from_list_all, list_all-from_AllPass}
use Rattle.matrix_u32.proofs.Products.{at-list_of_any}
use Rattle.digit_pack.specs.Layout.{Shape, record_at, records_in}
use Rattle.digit_pack.specs.Slots.{is_slotted, is_slot, slot_of, content_of}
use Rattle.digit_pack.proofs.SlotLemmas.{slot_is_filled}
use Rattle.pir_schemes.specs.declared.plan.Plan.{Plan}
use Rattle.pir_schemes.specs.Plans.{IsPlan, IsRecordOf, shape_at, fits, slot, slots, is_slot_of, content, records_held}
use Rattle.pir_schemes.proofs.Quiet.{slot_holds}
use Rattle.pir_schemes.proofs.SlotLists.{all_slots}
use Rattle.snapshot_file.specs.declared.snapshot.Header.{Header}
use Rattle.snapshot_file.specs.Snapshots.{shape_of, has_slots}
use Rattle.version_store.specs.Openings.{plan_held}
use Rattle.version_store.proofs.Versions.{long_records}

-- by whether the form has slots
slot_by : (b : Bool) (len : ℕ) (bytes : List ℕ) → length bytes ≡ len → All (λ x. x < 2 ^ 8) bytes → cond b (is_slot bytes) true ≡ true →
    cond b (slot_of len (cond b (content_of bytes) bytes)) (cond b (content_of bytes) bytes) ≡ bytes
slot_by true len bytes e small good = ap (λ (n : ℕ). slot_of n (content_of bytes)) (sym e) ∙ sym (slot_is_filled bytes small good)
slot_by false len bytes e small good = refl

-- a record read from its bytes has these bytes
slot_again : (p : Plan) (bytes : List ℕ) → length bytes ≡ p.record_len → All (λ x. x < 2 ^ 8) bytes → is_slot_of p bytes ≡ true →
    slot p (content p bytes) ≡ bytes
unfolding slot content is_slot_of
slot_again p bytes e small good = slot_by (is_slotted p.form) p.record_len bytes e small good

maps_back : (p : Plan) (xs : List (List ℕ)) → ((k : ℕ) → k < length xs → slot p (content p (record_at xs k)) ≡ record_at xs k) →
    map (slot p) (map (content p) xs) ≡ xs
maps_back p [] h = refl
maps_back p (x ∷ xs) h = rw (h 0 (omega arith)) (ap (λ (ys : List (List ℕ)). x ∷ ys) (maps_back p xs (λ k lt. h (suc k) (omega arith))))

module _ (p : Plan) (l : Shape) (bytes : List ℕ) (sizes : shape_at p l.count ≡ l) (count : length bytes ≡ l.count * l.record_len) where
  pub record_len_is : (k : ℕ) → k < l.count → length (record_at (records_in l bytes) k) ≡ l.record_len
  record_len_is k lt =
      let room : k * l.record_len + l.record_len ≤ l.count * l.record_len = row_fits k l.record_len l.count l.record_len lt (omega arith) in
      ap length (at-list_of_any l.count (λ i. take l.record_len (drop (i * l.record_len) bytes)) k [] lt)
      ∙ length-take-le l.record_len (drop (k * l.record_len) bytes) (omega (arith, room, count, length-drop (k * l.record_len) bytes))

  pub record_small : All (λ x. x < 2 ^ 8) bytes → (k : ℕ) → k < l.count → All (λ x. x < 2 ^ 8) (record_at (records_in l bytes) k)
  record_small small k lt =
      rw (at-list_of_any l.count (λ i. take l.record_len (drop (i * l.record_len) bytes)) k [] lt)
      (All-take (λ x. x < 2 ^ 8) l.record_len (drop (k * l.record_len) bytes) (All-drop (λ x. x < 2 ^ 8) (k * l.record_len) bytes small))

  -- each record has the bytes that it was read of
  pub slots_again : All (λ x. x < 2 ^ 8) bytes → list_all (is_slot_of p) (records_in l bytes) ≡ true →
      slots p (records_held p l.count bytes) ≡ records_in l bytes
  slots_again small good =
      let each = AllPass-from_list_all (is_slot_of p) (records_in l bytes) good in
      ap (λ (s : Shape). map (slot p) (map (content p) (records_in s bytes))) sizes
      ∙ maps_back p (records_in l bytes) (λ k lt.
      let inside : k < l.count = omega (arith, lt, long_records l bytes) in
      slot_again p (record_at (records_in l bytes) k) (record_len_is k inside ∙ sym (ap (λ (s : Shape). s.record_len) sizes)) (record_small small k inside)
      (All-get_or (λ x. is_slot_of p x ≡ true) (records_in l bytes) k [] lt each))

-- ---- another record

module _ (p : Plan) (l : Shape) (old new : List ℕ) (i : ℕ) (bytes : List ℕ) (ok : IsPlan p l.count) (sizes : shape_at p l.count ≡ l)
    (room : fits p bytes ≡ true) (written : records_in l new ≡ slice_set (records_in l old) i (slot p bytes)) where
  pub held_replaced : records_held p l.count new ≡ slice_set (records_held p l.count old) i bytes
  held_replaced =
      ap (λ (s : Shape). map (content p) (records_in s new)) sizes
      ∙ ap (map (content p)) written
      ∙ map-set (content p) (records_in l old) i (slot p bytes)
      ∙ ap (slice_set (map (content p) (records_in l old)) i) (slot_holds p l.count bytes ok room).1
      ∙ ap (λ (s : Shape). slice_set (map (content p) (records_in s old)) i bytes) (sym sizes)

  pub good_again : list_all (is_slot_of p) (records_in l old) ≡ true → list_all (is_slot_of p) (records_in l new) ≡ true
  good_again good =
      ap (list_all (is_slot_of p)) written
      ∙ list_all-from_AllPass (is_slot_of p) (slice_set (records_in l old) i (slot p bytes))
      (All-set (λ x. is_slot_of p x ≡ true) (records_in l old) i (slot p bytes) (slot_holds p l.count bytes ok room).0
      (AllPass-from_list_all (is_slot_of p) (records_in l old) good))

  pub slots_replaced : slots p (records_held p l.count old) ≡ records_in l old → slots p (records_held p l.count new) ≡ records_in l new
  slots_replaced are =
      ap (map (slot p)) held_replaced
      ∙ map-set (slot p) (records_held p l.count old) i bytes
      ∙ ap (λ (xs : List (List ℕ)). slice_set xs i (slot p bytes)) are
      ∙ sym written

-- a record of those held is that in its bytes
pub held_at : (p : Plan) (l : Shape) (bytes : List ℕ) (i : ℕ) → shape_at p l.count ≡ l → i < l.count →
    record_at (records_held p l.count bytes) i ≡ content p (record_at (records_in l bytes) i)
held_at p l bytes i sizes lt =
    ap (λ (s : Shape). record_at (map (content p) (records_in s bytes)) i) sizes
    ∙ get_or-map (content p) (records_in l bytes) i [] [] (omega (arith, lt, long_records l bytes))

-- the bytes of each are a record's
pub slot_at : (p : Plan) (l : Shape) (bytes : List ℕ) (i : ℕ) → list_all (is_slot_of p) (records_in l bytes) ≡ true → i < l.count →
    is_slot_of p (record_at (records_in l bytes) i) ≡ true
slot_at p l bytes i good lt =
    All-get_or (λ x. is_slot_of p x ≡ true) (records_in l bytes) i [] (omega (arith, lt, long_records l bytes))
    (AllPass-from_list_all (is_slot_of p) (records_in l bytes) good)

-- by whether the form has slots
content_fits : (b : Bool) (len : ℕ) (bytes : List ℕ) → length bytes ≡ len → cond b (is_slot bytes) true ≡ true →
    let held = cond b (content_of bytes) bytes in
    cond b (nat_le (length held + 2) len) (length held == len) ≡ true
unfolding is_slot
content_fits true len bytes e good =
    let n = from_le_bytes w16 (take 2 bytes) in
    let room = leb-true (n + 2) (length bytes) (and_parts (nat_le (n + 2) (length bytes)) (list_all (nat_eq 0) (drop (n + 2) bytes)) good).0 in
    le-leb (length (take n (drop 2 bytes)) + 2) len
    (omega (arith, length-take-le n (drop 2 bytes) (omega (arith, length-drop 2 bytes, room)), room, e))
content_fits false len bytes e good = eq-eqb (length bytes) len e

content_small : (b : Bool) (bytes : List ℕ) → All (λ x. x < 2 ^ 8) bytes → All (λ x. x < 2 ^ 8) (cond b (content_of bytes) bytes)
content_small true bytes small =
    All-take (λ x. x < 2 ^ 8) (from_le_bytes w16 (take 2 bytes)) (drop 2 bytes) (All-drop (λ x. x < 2 ^ 8) 2 bytes small)
content_small false bytes small = small

-- what a record's bytes in the digits hold is a record
content_is : (p : Plan) (bytes : List ℕ) → length bytes ≡ p.record_len → All (λ x. x < 2 ^ 8) bytes → is_slot_of p bytes ≡ true →
    IsRecordOf p (content p bytes)
unfolding content is_slot_of fits
content_is p bytes e small good = record {
  fits = content_fits (is_slotted p.form) p.record_len bytes e good;
  each = content_small (is_slotted p.form) bytes small;
}

-- each of those held is a record
pub held_is : (p : Plan) (l : Shape) (bytes : List ℕ) → shape_at p l.count ≡ l → length bytes ≡ l.count * l.record_len →
    All (λ x. x < 2 ^ 8) bytes → list_all (is_slot_of p) (records_in l bytes) ≡ true → (i : ℕ) → i < l.count →
    IsRecordOf p (record_at (records_held p l.count bytes) i)
held_is p l bytes sizes count small good i lt =
    rw (held_at p l bytes i sizes lt)
    (content_is p (record_at (records_in l bytes) i)
    (record_len_is p l bytes sizes count i lt ∙ sym (ap (λ (s : Shape). s.record_len) sizes)) (record_small p l bytes sizes count small i lt)
    (slot_at p l bytes i good lt))

-- of a snapshot's bytes, each is a record's
pub held_slots : (h : Header) (records : List ℕ) → has_slots h records ≡ true →
    list_all (is_slot_of (plan_held h)) (records_in (shape_of h) records) ≡ true
unfolding has_slots
held_slots h records good = all_slots (plan_held h) (records_in (shape_of h) records) ∙ good
