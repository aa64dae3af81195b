-- A hint after several records changed, one after another.
use Rattle.std.proofs.Common.{◌≡◌, ℕ, ◌<◌, ◌≤◌, ap, ◌∙◌, sym, refl, List, [], ◌∷◌}
use Rattle.std.specs.Prelude.{slice_set}
use Rattle.matrix_u32.specs.Sum.{dot}
use Rattle.matrix_u32.specs.Matrix.{WordMatrix, entry, row, column, product}
use Rattle.matrix_u32.proofs.Changes.{same-matrix_of}
use Rattle.matrix_u32.proofs.Products.{entry-product}
use Rattle.digit_pack.specs.Layout.{Shape, IsShape, digit_matrix, digit_rows, digit_cols}
use Rattle.hint_changes.specs.Changes.{ChangedRecord, AreChangesOf, word_after, records_after}
use Rattle.hint_changes.specs.Laws.{MovedHintIsMadeFromScratch}
use Rattle.hint_changes.proofs.OneChange.{word_moves}

words_move : (l : Shape) (changes : List ChangedRecord) (xs : List (List ℕ)) (a : WordMatrix) (r k : ℕ) → IsShape l → digit_cols l ≤ a.rows →
    AreChangesOf l changes xs → r < digit_rows l → k < a.cols →
    word_after l a r k changes (entry (product (digit_matrix l xs) a) r k) ≡ entry (product (digit_matrix l (records_after changes xs)) a) r k
words_move l [] xs a r k s inner are h m = refl
words_move l (c ∷ more) xs a r k s inner are h m =
    ap (word_after l a r k more) (sym (word_moves l xs a c r k s inner are.0 are.1 are.2 h m))
    ∙ words_move l more (slice_set xs c.index c.new) a r k s inner are.3 h m

pub hint_moves : MovedHintIsMadeFromScratch
hint_moves l changes xs a s inner are =
    let d : WordMatrix = digit_matrix l (records_after changes xs) in
    same-matrix_of (digit_rows l) a.cols (λ r k. word_after l a r k changes (entry (product (digit_matrix l xs) a) r k))
    (λ r k. dot (row d r) (column a k)) (λ r k p q. words_move l changes xs a r k s inner are p q ∙ entry-product d a r k p q)
