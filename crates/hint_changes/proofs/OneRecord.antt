-- A hint of which the rows of one record are moved.
use Rattle.std.proofs.Common.{◌≡◌, ℕ, ◌⊎◌, ◌+◌, ◌-◌, ◌*◌, ◌/◌, ◌%◌, ◌^◌, ◌<◌, ◌≤◌, arith, ap, ◌∙◌, sym, inl, inr, List, [], ◌∷◌}
use Rattle.std.proofs.lemmas.Bool.{cases_eq, cases_lt}
use Rattle.std.proofs.lemmas.Nat.{mod_below}
use Rattle.std.specs.Prelude.{slice_index}
use Rattle.matrix_u32.specs.Matrix.{WordMatrix, entry}
use Rattle.matrix_u32.proofs.Products.{at-list_of, entry-matrix_of}
use Rattle.matrix_u32.proofs.Changes.{matrix_by_entries}
use Rattle.matrix_u32.proofs.Rows.{if_here, if_elsewhere}
use Rattle.lane_kernels.specs.Digit.{digit}
use Rattle.digit_pack.specs.Digits.{number_of}
use Rattle.digit_pack.specs.Layout.{Shape, IsShape, digit_cols, digit_rows, digits_per_record, first_row, column_of, record_digits}
use Rattle.digit_pack.proofs.Changes.{some_digits}
use Rattle.digit_pack.proofs.Records.{column_inside}
use Rattle.seed_expand.specs.Words.{word, public_rows}
use Rattle.hint_changes.specs.Changes.{ChangedRecord, HaveMoved, digit_difference, word_after_change, moved}
use Rattle.hint_changes.proofs.OneChange.{row_of_digit, place_of_row}

-- a row lies before some rows, or among them, or after them
outside : (r first n : ℕ) → ¬ ((first ≤ r) × (r < first + n)) → (r < first) ⊎ (first + n ≤ r)
outside r first n apart = elim (cases_lt r first) [
  | inl below ↦ inl below
  | inr from ↦ elim (cases_lt r (first + n)) [
    | inl before ↦ absurd (apart (omega arith, before))
    | inr after ↦ inr (omega arith)
  ]
]

-- a word moved by digit d of a record's list of digits is moved by the digit itself
pub digits_moved : (l : Shape) (c : ChangedRecord) (x y z d : ℕ) → d < digits_per_record l → y ≡ z →
    (x + (slice_index (record_digits l c.new) d + (2 ^ 32 - slice_index (record_digits l c.old) d)) * y) % 2 ^ 32 ≡ (x + digit_difference l c d * z) % 2 ^ 32
digits_moved l c x y z d low same =
    let n : ℕ = digits_per_record l in
    ap (λ v. (x + (v + (2 ^ 32 - slice_index (record_digits l c.old) d)) * y) % 2 ^ 32) (at-list_of n (λ t. digit l.width (number_of 8 c.new) t) d low)
    ∙ ap (λ v. (x + (digit l.width (number_of 8 c.new) d + (2 ^ 32 - v)) * y) % 2 ^ 32) (at-list_of n (λ t. digit l.width (number_of 8 c.old) t) d low)
    ∙ ap (λ v. (x + digit_difference l c d * v) % 2 ^ 32) same

-- a word of the one row that is made is that of the public matrix
pub word_of_row : (l : Shape) (seed : List ℕ) (n i k : ℕ) (one : WordMatrix) → IsShape l → i < l.count → one ≡ public_rows seed 0 (column_of l i) 1 n → k < n →
    entry one 0 k ≡ entry (public_rows seed 0 0 (digit_cols l) n) (column_of l i) k
word_of_row l seed n i k one s inside is low =
    let column : ℕ = column_of l i in
    let place : column + 0 ≡ 0 + column = omega arith in
    ap (λ (m : WordMatrix). entry m 0 k) is
    ∙ entry-matrix_of 1 n (λ i j. word seed 0 ((column + i) * n + j)) 0 k (omega arith) low
    ∙ ap (λ y. word seed 0 (y * n + k)) place
    ∙ sym (entry-matrix_of (digit_cols l) n (λ i j. word seed 0 ((0 + i) * n + j)) column k (column_inside l i s.groups inside) low)

pub record_moved : (l : Shape) (a1 before after public : WordMatrix) (c : ChangedRecord) (first : ℕ) → IsShape l →
    first ≡ first_row l c.index → before.rows ≡ digit_rows l →
    HaveMoved before after public first (digits_per_record l) (record_digits l c.old) (record_digits l c.new) →
    ((k : ℕ) → k < before.cols → entry public 0 k ≡ entry a1 (column_of l c.index) k) → after ≡ moved l a1 (c ∷ []) before
record_moved l a1 before after public c first s at high done same =
    let n : ℕ = digits_per_record l in
    let i : ℕ = c.index in
    let old : List ℕ = record_digits l c.old in
    let new : List ℕ = record_digits l c.new in
    matrix_by_entries after before.rows before.cols (λ r k. word_after_change l a1 r k c (entry before r k)) done.rows done.cols done.whole (λ r k p q.
    let x : ℕ = entry before r k in
    let then : ℕ = (x + digit_difference l c (r % n) * entry a1 (column_of l i) k) % 2 ^ 32 in
    elim (cases_eq (r / n) (i % l.groups)) [
      | inl here ↦
          let d : ℕ = r % n in
          let low : d < n = mod_below r n (some_digits l s) in
          let row : r ≡ first + d = row_of_digit l i r here ∙ ap (λ y. y + d) (sym at) in
          ap (λ y. entry after y k) row
          ∙ done.moved d k low q
          ∙ ap (λ y. (entry before y k + (slice_index new d + (2 ^ 32 - slice_index old d)) * entry public 0 k) % 2 ^ 32) (sym row)
          ∙ digits_moved l c x (entry public 0 k) (entry a1 (column_of l i) k) d low (same k q)
          ∙ sym (if_here (r / n) (i % l.groups) then x here)
      | inr elsewhere ↦
          done.kept r k p q (outside r first n (λ within. elsewhere (place_of_row l i r (omega (arith, within.0, at)) (omega (arith, within.1, at)))))
          ∙ sym (if_elsewhere (r / n) (i % l.groups) then x elsewhere)
    ])
