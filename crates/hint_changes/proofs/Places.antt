-- The rows of a hint in which the records in one place of their columns have their digits.
use Rattle.std.proofs.Common.{◌≡◌, ℕ, ◌+◌, ◌-◌, ◌*◌, ◌/◌, ◌%◌, ◌^◌, ◌<◌, arith, ap, ◌∙◌, sym, List, [], ◌∷◌}
use Rattle.std.proofs.lemmas.Nat.{div-mul-add, mod-mul-add, mul-add-lt, mod_below}
use Rattle.std.specs.Prelude.{slice_index}
use Rattle.matrix_u32.specs.Matrix.{WordMatrix, entry}
use Rattle.matrix_u32.proofs.Products.{entry-matrix_of}
use Rattle.matrix_u32.proofs.Changes.{matrix_by_entries, same-matrix_of}
use Rattle.matrix_u32.proofs.Rows.{if_here, if_elsewhere}
use Rattle.digit_pack.specs.Layout.{Shape, IsShape, digit_rows, digits_per_record, column_of, record_digits}
use Rattle.hint_changes.specs.Changes.{ChangedRecord, HaveMoved, digit_difference, moved, rows_in_place, word_after, word_after_change}
use Rattle.hint_changes.specs.Laws.{OtherPlacesStay}
use Rattle.hint_changes.proofs.OneRecord.{digits_moved}

-- a word of a moved hint, in digit d of place g
word_in_place : (l : Shape) (a1 hint : WordMatrix) (c : ChangedRecord) (g d k : ℕ) → hint.rows ≡ digit_rows l → g < l.groups → d < digits_per_record l → k < hint.cols →
    entry (moved l a1 (c ∷ []) hint) (g * digits_per_record l + d) k
    ≡ word_after_change l a1 (g * digits_per_record l + d) k c (entry hint (g * digits_per_record l + d) k)
word_in_place l a1 hint c g d k high inside low q =
    entry-matrix_of hint.rows hint.cols (λ r k. word_after l a1 r k (c ∷ []) (entry hint r k)) (g * digits_per_record l + d) k
    (omega (arith, high, mul-add-lt g (digits_per_record l) d l.groups inside low)) q

pub other_places : OtherPlacesStay
other_places l a1 hint c g high inside apart =
    let n : ℕ = digits_per_record l in
    same-matrix_of n hint.cols (λ d k. entry (moved l a1 (c ∷ []) hint) (g * n + d) k) (λ d k. entry hint (g * n + d) k) (λ d k p q.
    word_in_place l a1 hint c g d k high inside p q
    ∙ if_elsewhere ((g * n + d) / n) (c.index % l.groups)
    ((entry hint (g * n + d) k + digit_difference l c ((g * n + d) % n) * entry a1 (column_of l c.index) k) % 2 ^ 32) (entry hint (g * n + d) k)
    (λ same. apart (sym same ∙ div-mul-add g n d p)))

-- the rows of a record's own place, moved by the changes of its digits
pub own_place : (l : Shape) (a1 hint before after public : WordMatrix) (c : ChangedRecord) → IsShape l →
    hint.rows ≡ digit_rows l → before ≡ rows_in_place l (c.index % l.groups) hint →
    HaveMoved before after public 0 (digits_per_record l) (record_digits l c.old) (record_digits l c.new) →
    ((k : ℕ) → k < before.cols → entry public 0 k ≡ entry a1 (column_of l c.index) k) →
    after ≡ rows_in_place l (c.index % l.groups) (moved l a1 (c ∷ []) hint)
own_place l a1 hint before after public c s high is done same =
    let n : ℕ = digits_per_record l in
    let g : ℕ = c.index % l.groups in
    let old : List ℕ = record_digits l c.old in
    let new : List ℕ = record_digits l c.new in
    let inside : g < l.groups = mod_below c.index l.groups s.groups in
    let rows : before.rows ≡ n = ap (λ (m : WordMatrix). m.rows) is in
    let cols : before.cols ≡ hint.cols = ap (λ (m : WordMatrix). m.cols) is in
    matrix_by_entries after n hint.cols (λ d k. entry (moved l a1 (c ∷ []) hint) (g * n + d) k) (done.rows ∙ rows) (done.cols ∙ cols) done.whole (λ d k p q.
    let r : ℕ = g * n + d in
    let x : ℕ = entry hint r k in
    let wide : k < before.cols = omega (arith, q, cols) in
    let place : 0 + d ≡ d = omega arith in
    let here : r / n ≡ g = div-mul-add g n d p in
    let low : r % n ≡ d = mod-mul-add g n d p in
    let word : entry before (0 + d) k ≡ x =
    ap (λ y. entry before y k) place ∙ ap (λ (m : WordMatrix). entry m d k) is ∙ entry-matrix_of n hint.cols (λ d k. entry hint (g * n + d) k) d k p q in
    ap (λ y. entry after y k) (sym place)
    ∙ done.moved d k p wide
    ∙ ap (λ y. (y + (slice_index new d + (2 ^ 32 - slice_index old d)) * entry public 0 k) % 2 ^ 32) word
    ∙ digits_moved l c x (entry public 0 k) (entry a1 (column_of l c.index) k) d p (same k wide)
    ∙ ap (λ t. (x + digit_difference l c t * entry a1 (column_of l c.index) k) % 2 ^ 32) (sym low)
    ∙ sym (if_here (r / n) (c.index % l.groups) ((x + digit_difference l c (r % n) * entry a1 (column_of l c.index) k) % 2 ^ 32) x here)
    ∙ sym (word_in_place l a1 hint c g d k high inside p q))
