-- A hint after one record changed.
use Rattle.std.proofs.Common.{◌≡◌, ℕ, ◌+◌, ◌-◌, ◌*◌, ◌/◌, ◌%◌, ◌^◌, ◌<◌, ◌≤◌, arith, ap, ◌∙◌, sym, refl, inl, inr, List, length, lit<}
use Rattle.std.proofs.lemmas.Bool.{cases_eq}
use Rattle.std.proofs.lemmas.Nat.{div-mul-add, div-add-mod', mod_below}
use Rattle.std.proofs.Math.Nat.{pow-le-pow_right}
use Rattle.std.specs.Prelude.{slice_set}
use Rattle.matrix_u32.specs.Sum.{sum_below}
use Rattle.matrix_u32.specs.Matrix.{WordMatrix, IsWhole, entry, product, with_entry}
use Rattle.matrix_u32.proofs.Sums.{sum_same}
use Rattle.matrix_u32.proofs.Products.{entry-product_within, length-list_of}
use Rattle.matrix_u32.proofs.Changes.{row_change, entry_set, entry_kept}
use Rattle.matrix_u32.proofs.Rows.{if_here, if_elsewhere}
use Rattle.lane_kernels.specs.Digit.{digit}
use Rattle.digit_pack.specs.Digits.{number_of}
use Rattle.digit_pack.specs.Laws.{RecordChange}
use Rattle.digit_pack.specs.Layout.{Shape, IsShape, digit_matrix, digit_rows, digit_cols, digits_per_record, first_row, column_of, record_at}
use Rattle.digit_pack.proofs.Changes.{record_change, some_digits}
use Rattle.digit_pack.proofs.Records.{entry-record, column_inside}
use Rattle.digit_pack.proofs.DigitSums.{digit-lt}
use Rattle.hint_changes.specs.Changes.{ChangedRecord, digit_difference, record_digit, word_after_change}

-- a row in a record's place of the column has one of its digits
pub row_of_digit : (l : Shape) (i r : ℕ) → r / digits_per_record l ≡ i % l.groups → r ≡ first_row l i + r % digits_per_record l
row_of_digit l i r e =
    let n : ℕ = digits_per_record l in
    sym (div-add-mod' r n) ∙ ap (λ g. g * n + r % n) e

-- a row of a digit is in that place
pub place_of_digit : (l : Shape) (i d : ℕ) → d < digits_per_record l → (first_row l i + d) / digits_per_record l ≡ i % l.groups
place_of_digit l i d low = div-mul-add (i % l.groups) (digits_per_record l) d low

pub place_of_row : (l : Shape) (i r : ℕ) → first_row l i ≤ r → r < first_row l i + digits_per_record l → r / digits_per_record l ≡ i % l.groups
place_of_row l i r low high =
    let d : ℕ = r - first_row l i in
    let at : r ≡ first_row l i + d = omega arith in
    ap (λ y. y / digits_per_record l) at ∙ place_of_digit l i d (omega arith)

-- row r of a product, if the left matrix has the same row
same_product : (d e a : WordMatrix) (r k : ℕ) → d.rows ≡ e.rows → d.cols ≡ e.cols → e.cols ≤ a.rows → r < e.rows → k < a.cols →
    ((t : ℕ) → t < e.cols → entry d r t ≡ entry e r t) → entry (product d a) r k ≡ entry (product e a) r k
same_product d e a r k rows cols inner p q same =
    entry-product_within d a r k (omega (arith, p, rows)) q (omega (arith, inner, cols))
    ∙ ap (λ n. sum_below n (λ t. entry d r t * entry a t k) % 2 ^ 32) cols
    ∙ ap (λ x. x % 2 ^ 32) (sum_same e.cols (λ t. entry d r t * entry a t k) (λ t. entry e r t * entry a t k) (λ t h. ap (λ y. y * entry a t k) (same t h)))
    ∙ sym (entry-product_within e a r k p q inner)

-- a digit is a word
small_digit : (l : Shape) (x d : ℕ) → IsShape l → digit l.width x d < 2 ^ 32
small_digit l x d s =
    let few : l.width ≤ 32 = omega (arith, s.small) in
    let fits : 2 ^ l.width ≤ 2 ^ 32 = pow-le-pow_right (lit< tt) few in
    omega (arith, digit-lt l.width x d, fits)

-- a word of the hint after the change of a record
pub word_moves : (l : Shape) (xs : List (List ℕ)) (a : WordMatrix) (c : ChangedRecord) (r k : ℕ) → IsShape l → digit_cols l ≤ a.rows →
    c.index < l.count → c.index < length xs → record_at xs c.index ≡ c.old → r < digit_rows l → k < a.cols →
    entry (product (digit_matrix l (slice_set xs c.index c.new)) a) r k ≡ word_after_change l a r k c (entry (product (digit_matrix l xs) a) r k)
word_moves l xs a c r k s inner p q is h m =
    let n : ℕ = digits_per_record l in
    let i : ℕ = c.index in
    let col : ℕ = column_of l i in
    let d : WordMatrix = digit_matrix l xs in
    let e : WordMatrix = digit_matrix l (slice_set xs i c.new) in
    let law : RecordChange l xs i c.new = record_change l xs i c.new s p q in
    let some : 0 < n = some_digits l s in
    let x : ℕ = entry (product d a) r k in
    let moved : ℕ = (x + digit_difference l c (r % n) * entry a col k) % 2 ^ 32 in
    elim (cases_eq (r / n) (i % l.groups)) [
      | inl here ↦
          let t : ℕ = r % n in
          let low : t < n = mod_below r n some in
          let at : r ≡ first_row l i + t = row_of_digit l i r here in
          let across : col < digit_cols l = column_inside l i s.groups p in
          let v : ℕ = record_digit l c.new t in
          let w : WordMatrix = with_entry d r col v in
          let whole : IsWhole d = length-list_of (digit_rows l * digit_cols l) _ in
          let old : entry d r col ≡ record_digit l c.old t =
          ap (λ y. entry d y col) at ∙ entry-record l xs i t s p low ∙ ap (λ b. digit l.width (number_of 8 b) t) is in
          let new : entry e r col ≡ v = ap (λ y. entry e y col) at ∙ law.here t low in
          let same : (j : ℕ) → j < digit_cols l → entry e r j ≡ entry w r j = λ j inside. elim (cases_eq j col) [
            | inl one ↦ ap (λ y. entry e r y) one ∙ new ∙ sym (entry_set d r col v whole h across) ∙ ap (λ y. entry w r y) (sym one)
            | inr apart ↦ law.elsewhere r j h inside (λ place. apart place.0) ∙ sym (entry_kept d r col v r j across inside (λ both. apart both.1))
          ] in
          let small : entry d r col < 2 ^ 32 = omega (arith, old, small_digit l (number_of 8 c.old) t s) in
          same_product e w a r k refl refl inner h m same
          ∙ (row_change d a r col v whole inner h across small).same_row k m
          ∙ ap (λ y. (x + (v + (2 ^ 32 - y)) * entry a col k) % 2 ^ 32) old
          ∙ sym (if_here (r / n) (i % l.groups) moved x here)
      | inr elsewhere ↦
          let same : (j : ℕ) → j < digit_cols l → entry e r j ≡ entry d r j = λ j inside. law.elsewhere r j h inside (λ place.
          elsewhere (place_of_row l i r place.1 place.2)) in
          same_product e d a r k refl refl inner h m same
          ∙ sym (if_elsewhere (r / n) (i % l.groups) moved x elsewhere)
    ]
