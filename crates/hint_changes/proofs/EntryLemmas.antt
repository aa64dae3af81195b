-- Changes that are made one after another.
use Rattle.std.proofs.Common.{◌≡◌, ℕ, ap, ◌∙◌, sym, refl, List, [], ◌∷◌, ◌++◌}
use Rattle.matrix_u32.specs.Matrix.{WordMatrix, IsWhole, entry}
use Rattle.matrix_u32.proofs.Products.{entry-matrix_of}
use Rattle.matrix_u32.proofs.Changes.{matrix_by_entries, same-matrix_of}
use Rattle.digit_pack.specs.Layout.{Shape}
use Rattle.hint_changes.specs.Changes.{ChangedRecord, moved, word_after, word_after_change}

pub none_made : (l : Shape) (a1 hint : WordMatrix) → IsWhole hint → hint ≡ moved l a1 [] hint
none_made l a1 hint whole = matrix_by_entries hint hint.rows hint.cols (λ r k. entry hint r k) refl refl whole (λ r k _ _. refl)

word_after_more : (l : Shape) (a1 : WordMatrix) (r k : ℕ) (changes : List ChangedRecord) (c : ChangedRecord) (x : ℕ) →
    word_after l a1 r k (changes ++ c ∷ []) x ≡ word_after_change l a1 r k c (word_after l a1 r k changes x)
word_after_more l a1 r k [] c x = refl
word_after_more l a1 r k (d ∷ more) c x = word_after_more l a1 r k more c (word_after_change l a1 r k d x)

pub one_more_made : (l : Shape) (a1 hint : WordMatrix) (changes : List ChangedRecord) (c : ChangedRecord) →
    moved l a1 (c ∷ []) (moved l a1 changes hint) ≡ moved l a1 (changes ++ c ∷ []) hint
one_more_made l a1 hint changes c =
    same-matrix_of hint.rows hint.cols (λ r k. word_after l a1 r k (c ∷ []) (entry (moved l a1 changes hint) r k))
    (λ r k. word_after l a1 r k (changes ++ c ∷ []) (entry hint r k)) (λ r k p q.
    ap (word_after l a1 r k (c ∷ [])) (entry-matrix_of hint.rows hint.cols (λ r k. word_after l a1 r k changes (entry hint r k)) r k p q)
    ∙ sym (word_after_more l a1 r k changes c (entry hint r k)))
