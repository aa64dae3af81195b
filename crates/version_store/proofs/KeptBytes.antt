-- The bytes of records that are in digits alone, or beside them.
use Rattle.std.proofs.Common.{◌≡◌, ◌∙◌, ℕ, suc, ◌+◌, ◌-◌, ◌*◌, ◌^◌, ◌<◌, ◌≤◌, lit<, replicate, List, [], ◌∷◌, ◌++◌, All, Bool, true, false, cond, length, take, drop, slice_set, refl, sym, ap, subst, arith, inl, inr}
use Rattle.std.proofs.Math.Nat.{mul-le-mul_right}
use borrow.Rule.Slice.PartMut.{put_mid, post_of}
use Rattle.std.proofs.lemmas.Bool.{cases_Bool, cases_lt}
use Rattle.std.proofs.lemmas.Nat.{row_fits}
use Rattle.std.proofs.lemmas.List.{length-append, length-take-le, length-drop}
use Rattle.std.proofs.lemmas.List.Elements.{All-append, All-from_get_or, All-replicate, All-set}
use Rattle.std.proofs.lemmas.List.Concat.{flat_map-cons}
use Rattle.matrix_u32.specs.Matrix.{WordMatrix, widened}
use Rattle.seed_expand.specs.Words.{public_rows}
use Rattle.matrix_u32.proofs.Products.{at-list_of_any}
use Rattle.digit_pack.specs.Layout.{Shape, IsLayout, is_wide, digit_cols, digit_matrix, record_at, records_in, IsRecord}
use Rattle.digit_pack.specs.Held.{record_in_digits, records_in_digits, AreRecords, HoldsRecord}
use Rattle.digit_pack.proofs.HeldRecords.{digits_hold}
use Rattle.digit_pack.proofs.RecordLemmas.{shape_of_layout, written_record}
use Rattle.pir_schemes.specs.declared.plan.Plan.{Plan}
use Rattle.pir_schemes.specs.Plans.{shape_at, content, is_slot_of, slots, records_held}
use Rattle.version_store.specs.Editions.{Records, IsLayer, IsMade, bytes_held}
use Rattle.version_store.specs.Openings.{bytes_of_records}
use Rattle.version_store.proofs.GrownLayer.{layer-grown}
use Rattle.version_store.proofs.RecordBytes.{joined_records}
use Rattle.version_store.proofs.Slotted.{record_len_is, record_small, slot_at, held_at}
use Rattle.version_store.proofs.Versions.{long_records, long_held, digits_again}

pub pick_true : (b : Bool) (x y : List ℕ) → b ≡ true → cond b x y ≡ x
pick_true b x y e = ap (λ c. cond c x y) e

pub pick_false : (b : Bool) (x y : List ℕ) → b ≡ false → cond b x y ≡ y
pick_false b x y e = ap (λ c. cond c x y) e

pub held_ordinary : (p : Plan) (l : Shape) (kept : List ℕ) (digits : WordMatrix) → is_wide p.form ≡ false → bytes_held p l kept digits ≡ kept
unfolding bytes_held
held_ordinary p l kept digits e = pick_false (is_wide p.form) (bytes_of_records (records_in_digits l digits)) kept e

held_wide : (p : Plan) (l : Shape) (kept : List ℕ) (digits : WordMatrix) → is_wide p.form ≡ true →
    bytes_held p l kept digits ≡ bytes_of_records (records_in_digits l digits)
unfolding bytes_held
held_wide p l kept digits e = pick_true (is_wide p.form) (bytes_of_records (records_in_digits l digits)) kept e

-- ---- bytes are below 256

pub small_joined : (xs : List (List ℕ)) → All (λ (bytes : List ℕ). All (λ x. x < 2 ^ 8) bytes) xs → All (λ x. x < 2 ^ 8) (bytes_of_records xs)
small_joined [] each = λ k d lt. absurd (omega (arith, lt))
small_joined (x ∷ xs) each =
    rw (flat_map-cons (λ (bytes : List ℕ). bytes) x xs)
    (All-append (λ x. x < 2 ^ 8) x (bytes_of_records xs) (each 0 [] (omega arith)) (small_joined xs (λ k d lt. each (suc k) d (omega arith))))

abbrev with_records : Plan → List (List ℕ) → Records
with_records p xs = record { plan = p; records = xs }

-- ---- a layer's records, read out of its digits

module _ (p : Plan) (l : Shape) (bytes : List ℕ) (a1 digits hint : WordMatrix) (made : IsMade p l bytes a1 digits hint)
    (small : All (λ x. x < 2 ^ 8) bytes) where
  are : AreRecords l (records_in l bytes)
  are = record {
    count = long_records l bytes;
    each = λ i lt. record {
      len = record_len_is p l bytes made.sizes made.count i lt;
      each = record_small p l bytes made.sizes made.count small i lt;
    };
  }

  pub matrix_is : digits ≡ digit_matrix l (records_in l bytes)
  matrix_is = made.digits_are ∙ digits_again p l bytes made.sizes made.slots_are

  pub records_back : records_in_digits l digits ≡ records_in l bytes
  records_back =
      ap (records_in_digits l) matrix_is ∙ (digits_hold l (records_in l bytes) (shape_of_layout l made.layout) are).same

  pub record_there : (i : ℕ) → i < l.count → HoldsRecord l digits i
  record_there i lt =
      subst (λ (m : WordMatrix). HoldsRecord l m i) (sym matrix_is) ((digits_hold l (records_in l bytes) (shape_of_layout l made.layout) are).each i lt)

  -- the bytes of the records that a layer holds
  pub held_made : (kept : List ℕ) → (is_wide p.form ≡ false → kept ≡ bytes) → bytes_held p l kept digits ≡ bytes
  held_made kept same = elim (cases_Bool (is_wide p.form)) [
    | inl wide ↦ held_wide p l kept digits wide ∙ ap bytes_of_records records_back ∙ joined_records l bytes made.count
    | inr ordinary ↦ held_ordinary p l kept digits ordinary ∙ same ordinary
  ]

  -- record i of those held, in the terms of what the layer is seen as
  module _ (e : Records) (i : ℕ) (view : with_records p (records_held p l.count bytes) ≡ e) (index : i < length e.records) where
    pub inside : i < l.count
    inside = omega (arith, index, ap (λ (x : Records). length x.records) view, long_held p l.count bytes)

    pub record_read : record_in_digits l digits i ≡ record_at (records_in l bytes) i
    record_read =
        sym (at-list_of_any l.count (record_in_digits l digits) i [] inside)
        ∙ ap (λ (xs : List (List ℕ)). record_at xs i) records_back

    pub place_is : record_at (records_in l bytes) i
        ≡ take e.plan.record_len (drop (i * e.plan.record_len) (bytes_of_records (slots e.plan e.records)))
    place_is =
        let all : bytes ≡ bytes_of_records (slots p (records_held p l.count bytes)) =
        sym (joined_records l bytes made.count) ∙ ap bytes_of_records (sym made.slots_are) in
        at-list_of_any l.count (λ k. take l.record_len (drop (k * l.record_len) bytes)) i [] inside
        ∙ ap (λ (s : Shape). take s.record_len (drop (i * s.record_len) bytes)) (sym made.sizes)
        ∙ ap (λ (b : List ℕ). take p.record_len (drop (i * p.record_len) b)) all
        ∙ ap (λ (x : Records). take x.plan.record_len (drop (i * x.plan.record_len) (bytes_of_records (slots x.plan x.records)))) view

    pub slot_is : is_slot_of e.plan (record_at (records_in l bytes) i) ≡ true
    slot_is = ap (λ (x : Records). is_slot_of x.plan (record_at (records_in l bytes) i)) (sym view) ∙ slot_at p l bytes i made.good inside

    pub content_is : content e.plan (record_at (records_in l bytes) i) ≡ record_at e.records i
    content_is =
        ap (λ (x : Records). content x.plan (record_at (records_in l bytes) i)) (sym view)
        ∙ sym (held_at p l bytes i made.sizes inside)
        ∙ ap (λ (x : Records). record_at x.records i) view

-- ---- another record

-- what a layer's bytes are with other bytes for record i
pub record IsReplaced (p : Plan) (l : Shape) (old s : List ℕ) (i : ℕ) (kept new : List ℕ) : Type 0 where
  pub long : length new ≡ length old
  pub written : records_in l new ≡ slice_set (records_in l old) i s
  pub small : All (λ x. x < 2 ^ 8) new
  pub same : is_wide p.form ≡ false → kept ≡ new

module _ (p : Plan) (l : Shape) (old s : List ℕ) (i : ℕ) (sizes : shape_at p l.count ≡ l) (count : length old ≡ l.count * l.record_len) (below : i < l.count)
    (small : All (λ x. x < 2 ^ 8) old) (bytes_are : IsRecord l s) where
  small_new : (new : List ℕ) → length new ≡ length old → records_in l new ≡ slice_set (records_in l old) i s → All (λ x. x < 2 ^ 8) new
  small_new new long written =
      let all : All (λ (bytes : List ℕ). All (λ x. x < 2 ^ 8) bytes) (records_in l old) =
      All-from_get_or (λ (bytes : List ℕ). All (λ x. x < 2 ^ 8) bytes) (records_in l old) [] (λ k lt.
      record_small p l old sizes count small k (omega (arith, lt, long_records l old))) in
      subst (All (λ x. x < 2 ^ 8)) (ap bytes_of_records (sym written) ∙ joined_records l new (long ∙ count))
      (small_joined (slice_set (records_in l old) i s)
      (All-set (λ (bytes : List ℕ). All (λ x. x < 2 ^ 8) bytes) (records_in l old) i s bytes_are.each all))

  pub replaced : (kept : List ℕ) →
      (is_wide p.form ≡ false → (length kept ≡ length old) × (records_in l kept ≡ slice_set (records_in l old) i s)) →
      (new : List ℕ) × IsReplaced p l old s i kept new
  replaced kept ordinary = elim (cases_Bool (is_wide p.form)) [
    | inl wide ↦
        let r : ℕ = l.record_len in
        let fits : i * r + r ≤ l.count * r = row_fits i r l.count r below (omega arith) in
        let long : length (put_mid (i * r) r old s) ≡ length old =
        length-append (take (i * r) old) (s ++ post_of (i * r) r old)
        ∙ omega (
          arith,
          length-append s (post_of (i * r) r old),
          bytes_are.len,
          length-take-le (i * r) old (omega (arith, fits, count)),
          length-drop r (drop (i * r) old),
          length-drop (i * r) old,
          fits,
          count,
        ) in
        let written : records_in l (put_mid (i * r) r old s) ≡ slice_set (records_in l old) i s =
        written_record l old s i r r refl refl count below bytes_are.len in (
          put_mid (i * r) r old s,
          record {
            long = long;
            written = written;
            small = small_new (put_mid (i * r) r old s) long written;
            same = λ e. absurd (cc (wide, e));
          },
        )
    | inr not ↦ (
      kept,
      record {
        long = (ordinary not).0;
        written = (ordinary not).1;
        small = small_new kept (ordinary not).0 (ordinary not).1;
        same = λ _. refl;
      },
    )
  ]

-- ---- blanks after the records

-- the bytes that are kept are no more than those of as many records or more
pub fewer_bytes : (p : Plan) (l m : Shape) (kept : List ℕ) (digits : WordMatrix) → is_wide p.form ≡ false → shape_at p l.count ≡ l → m ≡ shape_at p m.count →
    length (bytes_held p l kept digits) ≡ l.count * l.record_len → l.count ≤ m.count → length kept ≤ m.count * m.record_len
fewer_bytes p l m kept digits ordinary from to count low =
    let same : m.record_len ≡ l.record_len = ap (λ (s : Shape). s.record_len) to ∙ ap (λ (s : Shape). s.record_len) from in
    omega (arith, ap length (held_ordinary p l kept digits ordinary), count, ap (λ k. m.count * k) same, mul-le-mul_right l.record_len low)

rest_len : (n l r : ℕ) → l ≤ n → n * r - l * r ≡ (n - l) * r
rest_len n l r le =
    let all : n ≡ l + (n - l) = omega arith in
    let split : (l + (n - l)) * r ≡ l * r + (n - l) * r = omega arith in
    let whole : n * r ≡ l * r + (n - l) * r = ap (λ x. x * r) all ∙ split in
    omega (arith, whole)

module _ (p : Plan) (l m : Shape) (kept : List ℕ) (a1 digits hint : WordMatrix) (layer : IsLayer p l kept a1 digits hint) (layout : IsLayout m)
    (sizes : m ≡ shape_at p m.count) (le : l.count ≤ m.count) (a1' digits' : WordMatrix) (public : a1' ≡ public_rows p.seed 0 0 a1'.rows p.dimension)
    (enough : digit_cols m ≤ a1'.rows) (wide : digits' ≡ widened digits (digit_cols m)) (kept' : List ℕ)
    (grows : is_wide p.form ≡ false → kept' ≡ kept ++ replicate (m.count * m.record_len - length kept) 0) (stays : is_wide p.form ≡ true → kept' ≡ kept) where
  abbrev pub held_before : List ℕ
  held_before = bytes_held p l kept digits

  abbrev pub held_more : List ℕ
  held_more = held_before ++ replicate ((m.count - l.count) * l.record_len) 0

  made_more : IsMade p m held_more a1' digits' hint
  made_more = layer-grown p l m held_before a1 digits hint layer.made layout sizes le a1' digits' public enough wide

  small_more : All (λ x. x < 2 ^ 8) held_more
  small_more =
      All-append (λ x. x < 2 ^ 8) held_before (replicate ((m.count - l.count) * l.record_len) 0) layer.small
      (All-replicate (λ x. x < 2 ^ 8) ((m.count - l.count) * l.record_len) 0 (lit< tt))

  kept_more : is_wide p.form ≡ false → kept' ≡ held_more
  kept_more e =
      let same : m.record_len ≡ l.record_len = ap (λ (s : Shape). s.record_len) sizes ∙ ap (λ (s : Shape). s.record_len) layer.made.sizes in
      grows e
      ∙ ap (λ (k : List ℕ). k ++ replicate (m.count * m.record_len - length k) 0) (sym (held_ordinary p l kept digits e))
      ∙ ap (λ n. held_before ++ replicate (n - length held_before) 0) (ap (λ k. m.count * k) same)
      ∙ ap (λ n. held_before ++ replicate (m.count * l.record_len - n) 0) layer.made.count
      ∙ ap (λ n. held_before ++ replicate n 0) (rest_len m.count l.count l.record_len le)

  -- the layer's bytes have zeros after them
  pub held_grown : bytes_held p m kept' digits' ≡ held_more
  held_grown = held_made p m held_more a1' digits' hint made_more small_more kept' kept_more

  pub layer_more : IsLayer p m kept' a1' digits' hint
  layer_more = record {
    none = λ e. stays e ∙ layer.none e;
    small = subst (All (λ x. x < 2 ^ 8)) (sym held_grown) small_more;
    made = subst (λ (b : List ℕ). IsMade p m b a1' digits' hint) (sym held_grown) made_more;
  }

-- a record of bytes that have room for it is one of theirs
pub below_count : (i n r : ℕ) → 1 ≤ r → i * r + r ≤ n * r → i < n
below_count i n r some room = elim (cases_lt i n) [
  | inl below ↦ below
  | inr above ↦ absurd (omega (arith, some, room, mul-le-mul_right r above))
]
