-- What is read through the second layer.
use Rattle.std.proofs.Common.{◌≡◌, ℕ, ◌+◌, ◌*◌, ◌/◌, ◌%◌, ◌<◌, ◌^◌, arith, ap, ◌∙◌, sym, refl, List, length, ℤ, lit<}
use Rattle.std.proofs.lemmas.Nat.{mul-add-lt}
use Rattle.std.proofs.lemmas.List.{take_at, drop_at}
use Rattle.std.specs.Prelude.{slice_index}
use Rattle.matrix_u32.specs.Sum.{list_of, dot}
use Rattle.matrix_u32.specs.Matrix.{WordMatrix, row, column, entry, product, transpose, times_vector}
use Rattle.matrix_u32.proofs.Products.{length-list_of, at-list_of, entry-matrix_of, same-list_of, list_of-at, column-transpose, entry-product, entry-product_transposed, row-product, dot-lt, dot_comm}
use Rattle.noise_table.specs.Margin.{IsQuiet}
use Rattle.regev_core.specs.Encryption.{cipher, stripped, nearest}
use Rattle.regev_core.specs.Laws.{QuietMatrixRowGivesItsEntry}
use Rattle.lane_kernels.specs.Digit.{digit, split_count}
use Rattle.digit_pack.specs.Digits.{decomposed, decomposed_at, joined}
use Rattle.digit_pack.specs.Laws.{SplitJoins, DigitsAreSmall, DecomposedStandsBelow}
use Rattle.double_scheme.specs.Double.{second_digit, second_word, server_hint_words, first_answer_words, server_hint_of, first_answer_of, one_row, row_read, word_read, part_answer_of}

-- a digit of a matrix of words, read through a quiet layer
pub second_digit_of : QuietMatrixRowGivesItsEntry → DigitsAreSmall → (w : ℕ) (b a hint : WordMatrix) (s words : List ℕ) (e : List ℤ) (place r : ℕ) →
    w < 32 → b.cols ≡ a.rows → place < a.rows → r < b.rows * split_count w →
    IsQuiet w (row (decomposed w b) r) e →
    row hint r ≡ row (product (decomposed w b) a) r →
    words ≡ times_vector (decomposed w b) (cipher w a s e place) →
    second_digit w hint s words r ≡ entry (decomposed w b) r place
second_digit_of quiet_law small w b a hint s words e place r h cols p inside quiet row_is words_are =
    let at : entry (decomposed w b) r place ≡ decomposed_at w b r place =
    entry-matrix_of (b.rows * split_count w) b.cols (decomposed_at w b) r place inside (omega (arith, cols, p)) in
    ap (λ y. nearest w (stripped (slice_index y r) (row hint r) s)) words_are
    ∙ ap (λ y. nearest w (stripped (slice_index (times_vector (decomposed w b) (cipher w a s e place)) r) y s)) row_is
    ∙ quiet_law w (decomposed w b) a s e r place h inside cols p (omega (arith, at, small w (entry b (r / split_count w) place) (r % split_count w))) quiet

-- a word of a matrix, read from its digits
pub second_word_of : QuietMatrixRowGivesItsEntry → SplitJoins → DigitsAreSmall → DecomposedStandsBelow →
    (w : ℕ) (b a hint : WordMatrix) (s words : List ℕ) (e : List ℤ) (place k : ℕ) →
    0 < w → w < 32 → b.cols ≡ a.rows → place < a.rows → k < b.rows → entry b k place < 2 ^ 32 →
    ((r : ℕ) → r < b.rows * split_count w → IsQuiet w (row (decomposed w b) r) e) →
    ((r : ℕ) → r < b.rows * split_count w → row hint r ≡ row (product (decomposed w b) a) r) →
    words ≡ times_vector (decomposed w b) (cipher w a s e place) →
    second_word w hint s words k ≡ entry b k place
second_word_of quiet_law join_law small stands w b a hint s words e place k pos h cols p kp bound quiet rows_are words_are =
    ap (joined w) (same-list_of (split_count w) _ (λ t. digit w (entry b k place) t) (λ t tp.
    let r : ℕ = k * split_count w + t in
    let inside : r < b.rows * split_count w = omega (arith, mul-add-lt k (split_count w) t b.rows kp tp) in
    second_digit_of quiet_law small w b a hint s words e place r h cols p inside (quiet r inside) (rows_are r inside) words_are
    ∙ stands w b k t place tp kp (omega arith)))
    ∙ join_law w (entry b k place) pos bound

row-one_row : (c : List ℕ) → row (one_row c) 0 ≡ c
row-one_row c =
    let start : 0 * length c ≡ 0 = omega arith in
    same-list_of (length c) _ (λ j. slice_index c j) (λ j _. ap (slice_index c) (omega arith)) ∙ list_of-at c (length c) refl

-- a first answer's word is the answer's word
entry-first : (d : WordMatrix) (c : List ℕ) (r : ℕ) → length c ≡ d.cols → r < d.rows → entry (product (one_row c) (transpose d)) 0 r ≡ dot (row d r) c
entry-first d c r e p =
    entry-product (one_row c) (transpose d) 0 r (lit< tt) p
    ∙ ap (λ x. dot x (column (transpose d) r)) (row-one_row c)
    ∙ ap (dot c) (column-transpose d r p)
    ∙ ap (λ x. dot x (row d r)) (sym (list_of-at c d.cols e))
    ∙ dot_comm d.cols (λ j. slice_index c j) (λ j. entry d r j)
    ∙ ap (dot (row d r)) (list_of-at c d.cols e)

-- the words of the server's hint round to its column of the digit's row
pub hint_digit_of : QuietMatrixRowGivesItsEntry → DigitsAreSmall → (w : ℕ) (d a1 a2 : WordMatrix) (c s2 : List ℕ) (e : List ℤ) (r k : ℕ) →
    w < 32 → a2.rows ≡ d.rows → r < d.rows → k < a1.cols * split_count w →
    IsQuiet w (row (server_hint_of w d a1) k) e →
    second_digit w (product (server_hint_of w d a1) a2) s2
    (server_hint_words w a1.cols (part_answer_of (server_hint_of w d a1) (first_answer_of w d c) (cipher w a2 s2 e r))) k
    ≡ entry (server_hint_of w d a1) k r
hint_digit_of quiet_law small w d a1 a2 c s2 e r k low rows2 p inside quiet =
    let hint = server_hint_of w d a1 in
    let one = times_vector hint (cipher w a2 s2 e r) in
    let two = times_vector (first_answer_of w d c) (cipher w a2 s2 e r) in
    let size : length one ≡ a1.cols * split_count w = length-list_of hint.rows (λ k. dot (row hint k) (cipher w a2 s2 e r)) in
    second_digit_of quiet_law small w (product (transpose a1) (transpose d)) a2 (product hint a2) s2 _ e r k low (sym rows2) (omega arith) inside quiet refl
    (take_at one two (a1.cols * split_count w) size)

-- the words of the first answer round to its column of that row
pub first_digit_of : QuietMatrixRowGivesItsEntry → DigitsAreSmall → (w : ℕ) (d a1 a2 h : WordMatrix) (c s2 : List ℕ) (e : List ℤ) (r k : ℕ) →
    w < 32 → a2.rows ≡ d.rows → r < d.rows → k < split_count w →
    IsQuiet w (row (first_answer_of w d c) k) e →
    row h k ≡ row (product (first_answer_of w d c) a2) k →
    second_digit w h s2 (first_answer_words w a1.cols (part_answer_of (server_hint_of w d a1) (first_answer_of w d c) (cipher w a2 s2 e r))) k
    ≡ entry (first_answer_of w d c) k r
first_digit_of quiet_law small w d a1 a2 h c s2 e r k low rows2 p inside quiet row_is =
    let hint = server_hint_of w d a1 in
    let one = times_vector hint (cipher w a2 s2 e r) in
    let two = times_vector (first_answer_of w d c) (cipher w a2 s2 e r) in
    let size : length one ≡ a1.cols * split_count w = length-list_of hint.rows (λ k. dot (row hint k) (cipher w a2 s2 e r)) in
    second_digit_of quiet_law small w (product (one_row c) (transpose d)) a2 h s2 _ e r k low (sym rows2) (omega arith) (omega arith) quiet row_is
    (drop_at one two (a1.cols * split_count w) size)

-- the rows of the client's hint give the words of the digit's row of the first hint
pub row_read_of : QuietMatrixRowGivesItsEntry → SplitJoins → DigitsAreSmall → DecomposedStandsBelow →
    (w : ℕ) (d a1 a2 : WordMatrix) (c s2 : List ℕ) (e : List ℤ) (r : ℕ) →
    0 < w → w < 32 → a1.rows ≡ d.cols → a2.rows ≡ d.rows → r < d.rows →
    ((k : ℕ) → k < a1.cols * split_count w → IsQuiet w (row (server_hint_of w d a1) k) e) →
    row_read w a1.cols (product (server_hint_of w d a1) a2) s2 (part_answer_of (server_hint_of w d a1) (first_answer_of w d c) (cipher w a2 s2 e r))
    ≡ row (product d a1) r
row_read_of quiet_law join_law small stands w d a1 a2 c s2 e r pos low rows1 rows2 p quiet =
    let hint = server_hint_of w d a1 in
    let one = times_vector hint (cipher w a2 s2 e r) in
    let two = times_vector (first_answer_of w d c) (cipher w a2 s2 e r) in
    let size : length one ≡ a1.cols * split_count w = length-list_of hint.rows (λ k. dot (row hint k) (cipher w a2 s2 e r)) in
    ap (λ y. list_of a1.cols (second_word w (product hint a2) s2 y)) (take_at one two (a1.cols * split_count w) size)
    ∙ same-list_of a1.cols _ (λ k. dot (row d r) (column a1 k)) (λ k l.
    second_word_of quiet_law join_law small stands w (product (transpose a1) (transpose d)) a2 (product hint a2) s2 one e r k pos low (sym rows2)
    (omega arith) l
    (rw (entry-product_transposed a1 d k r rows1 l p) (dot-lt (row d r) (column a1 k)))
    (λ j m. quiet j m) (λ j m. refl) refl
    ∙ entry-product_transposed a1 d k r rows1 l p)
    ∙ sym (row-product d a1 r p)

-- the first answer's hint gives the word of the digit's row of the first answer
pub word_read_of : QuietMatrixRowGivesItsEntry → SplitJoins → DigitsAreSmall → DecomposedStandsBelow →
    (w : ℕ) (d a1 a2 h : WordMatrix) (c s2 : List ℕ) (e : List ℤ) (r : ℕ) →
    0 < w → w < 32 → a2.rows ≡ d.rows → length c ≡ d.cols → r < d.rows →
    ((k : ℕ) → k < split_count w → IsQuiet w (row (first_answer_of w d c) k) e) →
    ((k : ℕ) → k < split_count w → row h k ≡ row (product (first_answer_of w d c) a2) k) →
    word_read w a1.cols h s2 (part_answer_of (server_hint_of w d a1) (first_answer_of w d c) (cipher w a2 s2 e r)) ≡ slice_index (times_vector d c) r
word_read_of quiet_law join_law small stands w d a1 a2 h c s2 e r pos low rows2 len p quiet hint_rows =
    let hint = server_hint_of w d a1 in
    let one = times_vector hint (cipher w a2 s2 e r) in
    let two = times_vector (first_answer_of w d c) (cipher w a2 s2 e r) in
    let size : length one ≡ a1.cols * split_count w = length-list_of hint.rows (λ k. dot (row hint k) (cipher w a2 s2 e r)) in
    ap (λ y. second_word w h s2 y 0) (drop_at one two (a1.cols * split_count w) size)
    ∙ second_word_of quiet_law join_law small stands w (product (one_row c) (transpose d)) a2 h s2 two e r 0 pos low (sym rows2) (omega arith) (lit< tt)
    (rw (entry-first d c r len p) (dot-lt (row d r) c))
    (λ k l. quiet k (omega arith)) (λ k l. hint_rows k (omega arith)) refl
    ∙ entry-first d c r len p
    ∙ sym (at-list_of d.rows (λ k. dot (row d k) c) r p)
