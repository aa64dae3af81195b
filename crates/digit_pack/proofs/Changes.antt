-- Digit matrices of which one record is replaced, and places without a record.
use Rattle.std.proofs.Common.{◌≡◌, ◌≢◌, ℕ, ◌+◌, ◌-◌, ◌*◌, ◌/◌, ◌%◌, ◌^◌, ◌<◌, ◌≤◌, arith, ap, ◌∙◌, sym, refl, List, [], length, get_or-set_same, get_or-set_other}
use Rattle.std.proofs.lemmas.Nat.{pow_pos, le-div, div_below, div-mul-add, mod-mul-add, div-add-mod', mod_below}
use Rattle.std.proofs.lemmas.List.{get_or_past}
use Rattle.std.proofs.Math.Nat.{zero-div, mod-eq_of_lt}
use Rattle.std.specs.Prelude.{slice_set}
use Rattle.matrix_u32.specs.Sum.{sum_below}
use Rattle.matrix_u32.specs.Matrix.{entry}
use Rattle.matrix_u32.proofs.Products.{entry-matrix_of}
use Rattle.lane_kernels.specs.Digit.{digit}
use Rattle.digit_pack.specs.Digits.{number_of}
use Rattle.digit_pack.specs.Layout.{Shape, IsShape, digit_matrix, digit_at, digit_rows, digit_cols, digits_per_record, first_row, column_of}
use Rattle.digit_pack.specs.Laws.{IsPlaceOf, RecordChange}
use Rattle.digit_pack.proofs.Records.{entry-record}

pub zero_digit : (w t : ℕ) → digit w 0 t ≡ 0
unfolding digit
zero_digit w t = ap (λ k. k % 2 ^ w) (zero-div (2 ^ (w * t))) ∙ mod-eq_of_lt (pow_pos w)

no_number : number_of 8 [] ≡ 0
unfolding number_of sum_below
no_number = refl

pub unused_slot : (l : Shape) (records : List (List ℕ)) (r j : ℕ) → r < digit_rows l → j < digit_cols l →
    length records ≤ j * l.groups + r / digits_per_record l → entry (digit_matrix l records) r j ≡ 0
unused_slot l records r j p q past =
    entry-matrix_of (digit_rows l) (digit_cols l) (digit_at l records) r j p q
    ∙ ap (λ bytes. digit l.width (number_of 8 bytes) (r % digits_per_record l)) (get_or_past records (j * l.groups + r / digits_per_record l) [] past)
    ∙ ap (λ n. digit l.width n (r % digits_per_record l)) no_number
    ∙ zero_digit l.width (r % digits_per_record l)

-- the record of a place tells the place's column and group
pub place_of : (l : Shape) (i r j : ℕ) → 0 < digits_per_record l → r < digit_rows l → j * l.groups + r / digits_per_record l ≡ i → IsPlaceOf l i r j
place_of l i r j some p e =
    let group : r / digits_per_record l < l.groups = div_below r (digits_per_record l) l.groups some p in
    let col : j ≡ column_of l i = sym (ap (λ k. k / l.groups) (sym e) ∙ div-mul-add j l.groups (r / digits_per_record l) group) in
    let in_column : i % l.groups ≡ r / digits_per_record l = ap (λ k. k % l.groups) (sym e) ∙ mod-mul-add j l.groups (r / digits_per_record l) group in
    let first : first_row l i ≡ r / digits_per_record l * digits_per_record l = ap (λ k. k * digits_per_record l) in_column in
    let split : r / digits_per_record l * digits_per_record l + r % digits_per_record l ≡ r = div-add-mod' r (digits_per_record l) in
    let low : r % digits_per_record l < digits_per_record l = mod_below r (digits_per_record l) some in
    (col, omega (arith, first, split), omega (arith, first, split, low))

pub some_digits : (l : Shape) → IsShape l → 0 < digits_per_record l
some_digits l s =
    let wide : 0 < l.width = s.width in
    let bytes : 0 < l.record_len = s.record_len in
    le-div 1 (8 * l.record_len + l.width - 1) l.width wide (omega arith)

pub record_change : (l : Shape) (records : List (List ℕ)) (i : ℕ) (bytes : List ℕ) → IsShape l → i < l.count → i < length records →
    RecordChange l records i bytes
record_change l records i bytes s p q = record {
  here = λ d h.
      entry-record l (slice_set records i bytes) i d s p h
      ∙ ap (λ b. digit l.width (number_of 8 b) d) (get_or-set_same records i bytes [] q);
  elsewhere = λ r j h k apart.
      let other : j * l.groups + r / digits_per_record l ≢ i = λ e. apart (place_of l i r j (some_digits l s) h e) in
      entry-matrix_of (digit_rows l) (digit_cols l) (digit_at l (slice_set records i bytes)) r j h k
      ∙ ap (λ b. digit l.width (number_of 8 b) (r % digits_per_record l)) (get_or-set_other records i (j * l.groups + r / digits_per_record l) bytes [] other)
      ∙ sym (entry-matrix_of (digit_rows l) (digit_cols l) (digit_at l records) r j h k);
}

-- the place tells the record
pub record_of_place : (l : Shape) (i r j : ℕ) → 0 < digits_per_record l → 0 < l.groups → IsPlaceOf l i r j → j * l.groups + r / digits_per_record l ≡ i
record_of_place l i r j some g place =
    let k : ℕ = digits_per_record l in
    let d : ℕ = r - first_row l i in
    let low : d < k = omega (arith, place.1, place.2) in
    let split : r ≡ i % l.groups * k + d = omega (arith, place.1) in
    let group : r / k ≡ i % l.groups = ap (λ x. x / k) split ∙ div-mul-add (i % l.groups) k d low in
    ap (λ x. x * l.groups + r / k) place.0 ∙ ap (λ x. i / l.groups * l.groups + x) group ∙ div-add-mod' i l.groups

-- which digit of the record a place has
pub digit_of_place : (l : Shape) (i d : ℕ) → d < digits_per_record l → (first_row l i + d) % digits_per_record l ≡ d
digit_of_place l i d h = mod-mul-add (i % l.groups) (digits_per_record l) d h
