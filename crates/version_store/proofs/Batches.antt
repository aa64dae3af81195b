-- Records one after another, after those that are kept.
use Rattle.std.proofs.Common.{◌≡◌, ◌∙◌, ℕ, ◌+◌, ◌-◌, ◌*◌, ◌<◌, ◌≤◌, List, [], ◌++◌, length, take, drop, All, ◌^◌, ap, sym, arith, inl, inr}
use Rattle.std.proofs.lemmas.Bool.{cases_lt}
use Rattle.std.proofs.lemmas.List.{get_or_append_left, get_or-append_right, get_or_past, length-append, length-drop, take-append-le, drop-append-le}
use Rattle.std.proofs.Math.Seq.{drop-append-add}
use Rattle.std.proofs.lemmas.Nat.{row_fits}
use Rattle.std.proofs.lemmas.List.Elements.{All-append}
use Rattle.matrix_u32.specs.Matrix.{WordMatrix}
use Rattle.matrix_u32.proofs.Products.{at-list_of_any}
use Rattle.digit_pack.specs.Layout.{Shape, digit_matrix, record_at, records_in}
use Rattle.digit_pack.proofs.Turns.{same_digits}
use Rattle.snapshot_file.proofs.Pieces.{add_times}
use Rattle.version_store.specs.KeptRecords.{IsKept, bytes_in_digits, counted}
use Rattle.version_store.proofs.KeptBytes.{below_count}
use Rattle.version_store.proofs.KeptDigits.{is_kept, bytes_back}
use Rattle.version_store.proofs.Versions.{long_records}

-- the records of some bytes, and then those of others, have the digits of the records of both
-- together
pub joined_digits : (l : Shape) (n k : ℕ) (a b : List ℕ) → length a ≡ n * l.record_len → length b ≡ k * l.record_len →
    digit_matrix l (records_in (counted l n) a ++ records_in (counted l k) b) ≡ digit_matrix l (records_in (counted l (n + k)) (a ++ b))
joined_digits l n k a b long_a long_b = same_digits l (xs ++ ys) zs (λ j. elim (cases_lt j n) [
  | inl lt ↦ get_or_append_left xs ys [] j (omega (arith, lt, many_xs)) ∙ first j lt ∙ sym (at_zs j (omega (arith, lt)))
  | inr le ↦
      get_or-append_right xs ys n j [] many_xs le
      ∙ elim (cases_lt j (n + k)) [
        | inl lt ↦ second j le lt ∙ sym (at_zs j lt)
        | inr past ↦ get_or_past ys (j - n) [] (omega (arith, past, many_ys)) ∙ sym (get_or_past zs j [] (omega (arith, past, many_zs)))
      ]
])
  where
    r : ℕ
    r = l.record_len

    xs : List (List ℕ)
    xs = records_in (counted l n) a

    ys : List (List ℕ)
    ys = records_in (counted l k) b

    zs : List (List ℕ)
    zs = records_in (counted l (n + k)) (a ++ b)

    many_xs : length xs ≡ n
    many_xs = long_records (counted l n) a

    many_ys : length ys ≡ k
    many_ys = long_records (counted l k) b

    many_zs : length zs ≡ n + k
    many_zs = long_records (counted l (n + k)) (a ++ b)

    at_zs : (j : ℕ) → j < n + k → record_at zs j ≡ take r (drop (j * r) (a ++ b))
    at_zs j lt = at-list_of_any (n + k) (λ i. take r (drop (i * r) (a ++ b))) j [] lt

    first : (j : ℕ) → j < n → record_at xs j ≡ take r (drop (j * r) (a ++ b))
    first j lt =
        let room : j * r + r ≤ n * r = row_fits j r n r lt (omega arith) in
        at-list_of_any n (λ i. take r (drop (i * r) a)) j [] lt
        ∙ sym (ap (take r) (drop-append-le (j * r) a b (omega (arith, room, long_a)))
        ∙ take-append-le r (drop (j * r) a) b (omega (arith, room, long_a, length-drop (j * r) a)))

    second : (j : ℕ) → n ≤ j → j < n + k → record_at ys (j - n) ≡ take r (drop (j * r) (a ++ b))
    second j le lt =
        let split : j * r ≡ n * r + (j - n) * r = ap (λ i. i * r) (omega (arith, le)) ∙ add_times n (j - n) r in
        let from : j * r ≡ length a + (j - n) * r = omega (arith, split, long_a) in
        at-list_of_any k (λ i. take r (drop (i * r) b)) (j - n) [] (omega (arith, le, lt))
        ∙ sym (ap (take r) (ap (λ m. drop m (a ++ b)) from ∙ drop-append-add a b ((j - n) * r)))

-- ---- records are taken into what is kept

module _ (l : Shape) (n : ℕ) (digits : WordMatrix) (kept : IsKept l n digits) (new : List ℕ) (k : ℕ) (long : length new ≡ k * l.record_len)
    (room : length (bytes_in_digits l n digits) + length new ≤ l.count * l.record_len) where
  pub few_more : n + k ≤ l.count
  few_more =
      let both : n * l.record_len + k * l.record_len ≤ l.count * l.record_len = omega (arith, room, kept.len, long) in
      let below : n + k < l.count + 1 = below_count (n + k) (l.count + 1) l.record_len kept.layout.record_len.0 (omega (arith, both)) in
      omega (arith, below)

  module _ (small : All (λ x. x < 2 ^ 8) new) (after : WordMatrix)
      (written : (xs : List (List ℕ)) → length xs ≡ n → digits ≡ digit_matrix l xs → after ≡ digit_matrix l (xs ++ records_in (counted l k) new)) where
    long_both : length (bytes_in_digits l n digits ++ new) ≡ (n + k) * l.record_len
    long_both = omega (arith, length-append (bytes_in_digits l n digits) new, kept.len, long)

    small_both : All (λ x. x < 2 ^ 8) (bytes_in_digits l n digits ++ new)
    small_both = All-append (λ x. x < 2 ^ 8) (bytes_in_digits l n digits) new kept.small small

    made_both : after ≡ digit_matrix l (records_in (counted l (n + k)) (bytes_in_digits l n digits ++ new))
    made_both =
        written (records_in (counted l n) (bytes_in_digits l n digits)) (long_records (counted l n) (bytes_in_digits l n digits)) kept.digits_are
        ∙ joined_digits l n k (bytes_in_digits l n digits) new kept.len long

    pub kept_batch : IsKept l (n + k) after
    kept_batch = is_kept l (n + k) (bytes_in_digits l n digits ++ new) kept.layout few_more long_both small_both after made_both

    pub bytes_batch : bytes_in_digits l (n + k) after ≡ bytes_in_digits l n digits ++ new
    bytes_batch = bytes_back l (n + k) (bytes_in_digits l n digits ++ new) kept.layout few_more long_both small_both after made_both
