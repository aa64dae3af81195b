-- What is made from records, once blanks were put after them.
use Rattle.std.proofs.Common.{◌≡◌, ◌∙◌, ℕ, ◌+◌, ◌-◌, ◌*◌, ◌≤◌, List, ◌++◌, true, length, take, map, replicate, sym, ap, subst, arith}
use Rattle.std.specs.List.{list_all}
use Rattle.std.proofs.lemmas.Bool.{and_from}
use Rattle.std.proofs.lemmas.List.{take_all, length-append, length-replicate, map-append}
use Rattle.std.proofs.lemmas.List.Folds.{list_all-append}
use Rattle.std.proofs.lemmas.List.Elements.{All-replicate}
use Rattle.std.proofs.lemmas.List.Sums.{list_all-from_AllPass}
use Rattle.matrix_u32.specs.Matrix.{WordMatrix, widened}
use Rattle.seed_expand.specs.Words.{public_rows}
use Rattle.digit_pack.specs.Layout.{Shape, IsLayout, records_in, digit_cols}
use Rattle.pir_schemes.specs.declared.scheme.Scheme.TheVariants.{Simple}
use Rattle.pir_schemes.specs.declared.plan.Plan.{Plan}
use Rattle.pir_schemes.specs.Plans.{IsPlan, shape_at, slots, content, is_slot_of, records_held, digits_at}
use Rattle.pir_schemes.specs.Retrievals.{hint_matrix}
use Rattle.pir_schemes.proofs.Quiet.{slot_holds}
use Rattle.version_store.specs.Editions.{IsMade, blank, grown}
use Rattle.version_store.proofs.Grown.{map-replicate, blank-fits, blank-slot, slots-grown, zeros_after, digits-grown, hint-grown}
use Rattle.version_store.proofs.Versions.{long_held}

-- bytes that are made longer by zeros
pub resized : (n l r : ℕ) (items : List ℕ) → length items ≡ l * r → l ≤ n → take (n * r) items ++ replicate (n * r - l * r) 0 ≡ items ++ replicate ((n - l) * r) 0
resized n l r items long le =
    let all : n ≡ l + (n - l) = omega arith in
    let split : (l + (n - l)) * r ≡ l * r + (n - l) * r = omega arith in
    let whole : n * r ≡ l * r + (n - l) * r = ap (λ x. x * r) all ∙ split in
    let rest : n * r - l * r ≡ (n - l) * r = omega (arith, whole) in
    ap (λ (xs : List ℕ). xs ++ replicate (n * r - l * r) 0) (take_all (n * r) items (omega (arith, long, whole)))
    ∙ ap (λ k. items ++ replicate k 0) rest

module _ (p : Plan) (l m : Shape) (bytes : List ℕ) (a1 digits hint : WordMatrix) (made : IsMade p l bytes a1 digits hint) (layout : IsLayout m)
    (sizes : m ≡ shape_at p m.count) (le : l.count ≤ m.count) where
  abbrev pub further : ℕ
  further = m.count - l.count

  abbrev pub zeros : List ℕ
  zeros = replicate p.record_len 0

  abbrev pub old : List (List ℕ)
  old = records_held p l.count bytes

  abbrev pub more : List ℕ
  more = bytes ++ replicate (further * l.record_len) 0

  ok : IsPlan p m.count
  ok = record { form = made.form; layout = subst IsLayout sizes layout; low = made.low; high = made.high }

  len : p.record_len ≡ l.record_len
  len = ap (λ (s : Shape). s.record_len) made.sizes

  many : length old ≡ l.count
  many = long_held p l.count bytes

  -- a blank has zeros in the digits, and zeros hold a blank
  holds : (is_slot_of p zeros ≡ true) × (content p zeros ≡ blank p)
  holds =
      subst (λ (z : List ℕ). (is_slot_of p z ≡ true) × (content p z ≡ blank p)) (blank-slot p made.form)
      (slot_holds p m.count (blank p) ok (blank-fits p made.form))

  in_bytes : records_in m more ≡ records_in l bytes ++ replicate further zeros
  in_bytes =
      zeros_after l m bytes further (ap (λ (s : Shape). s.record_len) sizes ∙ len) (all m.count l.count le) made.count
      ∙ ap (λ (n : ℕ). records_in l bytes ++ replicate further (replicate n 0)) (sym len)
    where
      all : (n k : ℕ) → k ≤ n → n ≡ k + (n - k)
      all n k le = omega arith

  pub held-grown : records_held p m.count more ≡ grown p m.count old
  held-grown =
      ap (λ (s : Shape). map (content p) (records_in s more)) (sym sizes)
      ∙ ap (map (content p)) in_bytes
      ∙ map-append (content p) (records_in l bytes) (replicate further zeros)
      ∙ ap (λ (s : Shape). map (content p) (records_in s bytes) ++ map (content p) (replicate further zeros)) (sym made.sizes)
      ∙ ap (λ (xs : List (List ℕ)). old ++ xs) (map-replicate (content p) further zeros)
      ∙ ap (λ (z : List ℕ). old ++ replicate further z) holds.1
      ∙ ap (λ (n : ℕ). old ++ replicate (m.count - n) (blank p)) (sym many)

  pub layer-grown : (a1' digits' : WordMatrix) → a1' ≡ public_rows p.seed 0 0 a1'.rows p.dimension → digit_cols m ≤ a1'.rows →
      digits' ≡ widened digits (digit_cols m) → IsMade p m more a1' digits' hint
  layer-grown a1' digits' public enough wide =
      let groups = ok.layout.groups.0 in
      let below : length old ≤ m.count = omega (arith, many, le) in
      record {
        form = made.form;
        layout = layout;
        sizes = sym sizes;
        low = made.low;
        high = made.high;
        count = length-append bytes (replicate (further * l.record_len) 0)
            ∙ ap (λ (n : ℕ). n + length {A = ℕ} (replicate (further * l.record_len) 0)) made.count
            ∙ ap (λ (n : ℕ). l.count * l.record_len + n) (length-replicate {A = ℕ} (further * l.record_len) 0)
            ∙ times l.count m.count l.record_len le
            ∙ ap (λ (n : ℕ). m.count * n) (sym (ap (λ (s : Shape). s.record_len) sizes ∙ len));
        good = ap (list_all (is_slot_of p)) in_bytes
            ∙ list_all-append (is_slot_of p) (records_in l bytes) (replicate further zeros)
            ∙ and_from (list_all (is_slot_of p) (records_in l bytes)) (list_all (is_slot_of p) (replicate further zeros)) made.good
            (list_all-from_AllPass (is_slot_of p) (replicate further zeros) (All-replicate (λ x. is_slot_of p x ≡ true) further zeros holds.0));
        slots_are = ap (slots p) held-grown
            ∙ slots-grown p m.count old made.form
            ∙ ap (λ (xs : List (List ℕ)). xs ++ replicate (m.count - length old) zeros) made.slots_are
            ∙ ap (λ (n : ℕ). records_in l bytes ++ replicate (m.count - n) zeros) many
            ∙ sym in_bytes;
        public_is = public;
        enough = enough;
        digits_are = wide
            ∙ ap (λ (d : WordMatrix). widened d (digit_cols m)) made.digits_are
            ∙ ap (λ (s : Shape). widened (digits_at p old) (digit_cols s)) sizes
            ∙ sym (digits-grown p m.count old made.form groups below)
            ∙ ap (digits_at p) (sym held-grown);
        hint_is = made.hint_is ∙ sym (hint-grown p m.count old made.form groups below) ∙ ap (hint_matrix Simple p) (sym held-grown);
      }
    where
      times : (a n r : ℕ) → a ≤ n → a * r + (n - a) * r ≡ n * r
      times a n r le =
          let sum : a * r + (n - a) * r ≡ (a + (n - a)) * r = omega arith in
          let all : a + (n - a) ≡ n = omega arith in
          sum ∙ ap (λ (x : ℕ). x * r) all
