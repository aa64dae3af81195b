-- Rows in one place of two hints that are moved alike.
use Rattle.std.proofs.Common.{◌≡◌, ℕ, ◌+◌, ◌*◌, ◌<◌, arith, ap, ◌∙◌, sym, List, [], ◌∷◌, ◌++◌}
use Rattle.std.proofs.lemmas.Nat.{mul-add-lt}
use Rattle.matrix_u32.specs.Matrix.{WordMatrix, entry, matrix_of}
use Rattle.matrix_u32.proofs.Products.{entry-matrix_of}
use Rattle.matrix_u32.proofs.Changes.{same-matrix_of}
use Rattle.digit_pack.specs.Layout.{Shape, digit_rows, digits_per_record}
use Rattle.hint_changes.proofs.EntryLemmas.{one_more_made}
use Rattle.hint_changes.specs.Changes.{ChangedRecord, moved, rows_in_place, word_after}

-- a word of the rows in a place
word_there : (l : Shape) (g : ℕ) (hint : WordMatrix) (d k : ℕ) → d < digits_per_record l → k < hint.cols →
    entry (rows_in_place l g hint) d k ≡ entry hint (g * digits_per_record l + d) k
word_there l g hint d k p q = entry-matrix_of (digits_per_record l) hint.cols (λ d k. entry hint (g * digits_per_record l + d) k) d k p q

-- two hints with the same rows in a place have the same words there
pub same_words : (l : Shape) (g : ℕ) (one other : WordMatrix) → rows_in_place l g one ≡ rows_in_place l g other →
    (d k : ℕ) → d < digits_per_record l → k < one.cols →
    entry one (g * digits_per_record l + d) k ≡ entry other (g * digits_per_record l + d) k
same_words l g one other same d k p q =
    let cols : one.cols ≡ other.cols = ap (λ (m : WordMatrix). m.cols) same in
    sym (word_there l g one d k p q) ∙ ap (λ (m : WordMatrix). entry m d k) same ∙ word_there l g other d k p (omega (arith, q, cols))

-- a word of a moved hint in a place
moved_word : (l : Shape) (a1 hint : WordMatrix) (cs : List ChangedRecord) (g d k : ℕ) → hint.rows ≡ digit_rows l → g < l.groups →
    d < digits_per_record l → k < hint.cols →
    entry (moved l a1 cs hint) (g * digits_per_record l + d) k
    ≡ word_after l a1 (g * digits_per_record l + d) k cs (entry hint (g * digits_per_record l + d) k)
moved_word l a1 hint cs g d k high inside p q =
    entry-matrix_of hint.rows hint.cols (λ r k. word_after l a1 r k cs (entry hint r k)) (g * digits_per_record l + d) k
    (omega (arith, high, mul-add-lt g (digits_per_record l) d l.groups inside p)) q

-- moved by the same changes they still have the same rows there
pub moved_alike : (l : Shape) (a1 one other : WordMatrix) (cs : List ChangedRecord) (g : ℕ) → one.rows ≡ digit_rows l →
    other.rows ≡ digit_rows l → g < l.groups → rows_in_place l g one ≡ rows_in_place l g other →
    rows_in_place l g (moved l a1 cs one) ≡ rows_in_place l g (moved l a1 cs other)
moved_alike l a1 one other cs g high tall inside same =
    let n : ℕ = digits_per_record l in
    let cols : one.cols ≡ other.cols = ap (λ (m : WordMatrix). m.cols) same in
    same-matrix_of n one.cols (λ d k. entry (moved l a1 cs one) (g * n + d) k) (λ d k. entry (moved l a1 cs other) (g * n + d) k) (λ d k p q.
    moved_word l a1 one cs g d k high inside p q
    ∙ ap (word_after l a1 (g * n + d) k cs) (same_words l g one other same d k p q)
    ∙ sym (moved_word l a1 other cs g d k tall inside p (omega (arith, q, cols))))
    ∙ ap (λ c. matrix_of n c (λ d k. entry (moved l a1 cs other) (g * n + d) k)) cols

-- moved by no change they stay
pub none_moves : (l : Shape) (a1 hint : WordMatrix) (g : ℕ) → hint.rows ≡ digit_rows l → g < l.groups →
    rows_in_place l g hint ≡ rows_in_place l g (moved l a1 [] hint)
none_moves l a1 hint g high inside =
    let n : ℕ = digits_per_record l in
    same-matrix_of n hint.cols (λ d k. entry hint (g * n + d) k) (λ d k. entry (moved l a1 [] hint) (g * n + d) k)
    (λ d k p q. sym (moved_word l a1 hint [] g d k high inside p q))

-- one change more
pub one_more_alike : (l : Shape) (a1 hint now next : WordMatrix) (cs : List ChangedRecord) (c : ChangedRecord) (g : ℕ) → hint.rows ≡ digit_rows l →
    now.rows ≡ digit_rows l → g < l.groups → rows_in_place l g now ≡ rows_in_place l g (moved l a1 cs hint) →
    rows_in_place l g next ≡ rows_in_place l g (moved l a1 (c ∷ []) now) →
    rows_in_place l g next ≡ rows_in_place l g (moved l a1 (cs ++ c ∷ []) hint)
one_more_alike l a1 hint now next cs c g high tall inside before after =
    after
    ∙ moved_alike l a1 now (moved l a1 cs hint) (c ∷ []) g tall high inside before
    ∙ ap (rows_in_place l g) (one_more_made l a1 hint cs c)
