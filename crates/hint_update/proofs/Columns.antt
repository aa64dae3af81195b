-- Hints of which one column of digits changes, digit by digit.
use Rattle.std.proofs.Common.{◌≡◌, ◌≢◌, ℕ, ◌+◌, ◌-◌, ◌*◌, ◌/◌, ◌%◌, ◌^◌, ◌<◌, ◌≤◌, ◌==◌, if◌then◌else◌, arith, ap, ◌∙◌, sym, refl, ⊎_elim, List, length}
use Rattle.std.proofs.lemmas.Bool.{cases_eq}
use Rattle.std.proofs.lemmas.List.{length-set}
use Rattle.std.specs.Prelude.{slice_index}
use Rattle.std.proofs.lemmas.Nat.{div_below}
use Rattle.matrix_u32.specs.Sum.{dot}
use Rattle.matrix_u32.specs.Matrix.{WordMatrix, IsWhole, entry, row, column, product, transpose, with_entry, with_row}
use Rattle.matrix_u32.proofs.Changes.{entry_kept, entry_set, matrix_by_entries, same-matrix_of}
use Rattle.matrix_u32.proofs.Products.{at-list_of, length-list_of, same-list_of, entry-matrix_of, entry-product, entry-product_transposed_within}
use Rattle.matrix_u32.proofs.Rows.{if_here, if_elsewhere, with_row-other, row_index, length-row}
use Rattle.lane_kernels.specs.Digit.{digit, split_count}
use Rattle.digit_pack.specs.Digits.{decomposed_at}
use Rattle.double_scheme.specs.Double.{server_hint_of}
use Rattle.hint_update.specs.Updates.{FollowsDigit, AreHintsOf, word_digit_at, digits_of_words, with_column, moved_hint}

-- the rows before row r follow their digits, and the others are as before
pub record IsUpdatedTo (r : ℕ) (s0 s c0 c a2 : WordMatrix) (w col : ℕ) (words : List ℕ) : Type 0 where
  pub server_rows : s.rows ≡ s0.rows
  pub server_cols : s.cols ≡ s0.cols
  pub server_whole : IsWhole s
  pub written : (i : ℕ) → i < r → i < s0.rows → entry s i col ≡ word_digit_at w words i
  pub kept : (i j : ℕ) → i < s0.rows → j < s0.cols → ¬ ((i < r) × (j ≡ col)) → entry s i j ≡ entry s0 i j
  pub client_rows : c.rows ≡ c0.rows
  pub client_cols : c.cols ≡ c0.cols
  pub client_whole : IsWhole c
  pub moved : (i k : ℕ) → i < r → i < c0.rows → k < c0.cols →
      entry c i k ≡ (entry c0 i k + (word_digit_at w words i + (2 ^ 32 - entry s0 i col)) * entry a2 col k) % 2 ^ 32
  pub stays : (i k : ℕ) → r ≤ i → i < c0.rows → k < c0.cols → entry c i k ≡ entry c0 i k
  pub follows : c0 ≡ product s0 a2 → c ≡ product s a2

pub none_updated : (s c a2 : WordMatrix) (w col : ℕ) (words : List ℕ) → IsWhole s → IsWhole c → IsUpdatedTo 0 s s c c a2 w col words
none_updated s c a2 w col words whole client = record {
  server_rows = refl;
  server_cols = refl;
  server_whole = whole;
  written = λ i l p. absurd (omega arith);
  kept = λ i j p q _. refl;
  client_rows = refl;
  client_cols = refl;
  client_whole = client;
  moved = λ i k l p q. absurd (omega arith);
  stays = λ i k l p q. refl;
  follows = λ h. h;
}

-- one row more
pub one_updated : (r : ℕ) (s0 s c0 c a2 : WordMatrix) (w col : ℕ) (words : List ℕ) (new : ℕ) (c' : WordMatrix) → IsUpdatedTo r s0 s c0 c a2 w col words →
    r < s0.rows → col < s0.cols → c0.rows ≡ s0.rows → c0.cols ≡ a2.cols → a2.rows ≡ s0.cols → new ≡ word_digit_at w words r →
    FollowsDigit c c' a2 r col (entry s r col) new →
    ((k : ℕ) → k < a2.cols → entry c' r k ≡ (entry c r k + (new + (2 ^ 32 - entry s r col)) * entry a2 col k) % 2 ^ 32) →
    c' ≡ with_row c r (row c' r) →
    IsUpdatedTo (r + 1) s0 (with_entry s r col new) c0 c' a2 w col words
one_updated r s0 s c0 c a2 w col words new c' h below inside high wide tall is digit_follows changed others =
    let here : r < s.rows = omega (arith, h.server_rows) in
    let across : col < s.cols = omega (arith, h.server_cols) in
    let before : entry s r col ≡ entry s0 r col = h.kept r col below inside (λ b. absurd (omega (arith, b.0))) in
    let same_rows : c'.rows ≡ c.rows = ap (λ (m : WordMatrix). m.rows) others in
    let same_cols : c'.cols ≡ c.cols = ap (λ (m : WordMatrix). m.cols) others in
    let other : (i k : ℕ) → i < c0.rows → i ≢ r → k < c0.cols → entry c' i k ≡ entry c i k =
    λ i k p apart q. ap (λ m. entry m i k) others ∙ with_row-other c r i k (row c' r) (omega (arith, h.client_rows)) apart (omega (arith, h.client_cols)) in
    record {
      server_rows = h.server_rows;
      server_cols = h.server_cols;
      server_whole = length-set _ _ _ ∙ h.server_whole;
      written = λ i l p.
          ⊎_elim
          (λ e. ap (λ i. entry (with_entry s r col new) i col) e ∙ entry_set s r col new h.server_whole here across ∙ is ∙ ap (word_digit_at w words) (sym e))
          (λ apart. entry_kept s r col new i col across across (λ x. apart x.0) ∙ h.written i (omega arith) p)
          (cases_eq i r);
      kept = λ i j p q apart.
          entry_kept s r col new i j across (omega (arith, h.server_cols)) (λ x. apart (omega (arith, x.0), x.1))
          ∙ h.kept i j p q (λ x. apart (omega (arith, x.0), x.1));
      client_rows = same_rows ∙ h.client_rows;
      client_cols = same_cols ∙ h.client_cols;
      client_whole = ap (λ (m : WordMatrix). length m.words) others ∙ length-list_of (c.rows * c.cols) _
          ∙ sym (ap (λ n. n * c'.cols) same_rows ∙ ap (λ n. c.rows * n) same_cols);
      moved = λ i k l p q.
          ⊎_elim
          (λ e.
          ap (λ i. entry c' i k) e ∙ changed k (omega arith)
          ∙ ap (λ y. (y + (new + (2 ^ 32 - entry s r col)) * entry a2 col k) % 2 ^ 32) (h.stays r k (omega arith) (omega arith) q)
          ∙ ap (λ y. (entry c0 r k + (y + (2 ^ 32 - entry s r col)) * entry a2 col k) % 2 ^ 32) is
          ∙ ap (λ y. (entry c0 r k + (word_digit_at w words r + (2 ^ 32 - y)) * entry a2 col k) % 2 ^ 32) before
          ∙ ap (λ i. (entry c0 i k + (word_digit_at w words i + (2 ^ 32 - entry s0 i col)) * entry a2 col k) % 2 ^ 32) (sym e))
          (λ apart. other i k p apart q ∙ h.moved i k (omega arith) p q)
          (cases_eq i r);
      stays = λ i k l p q. other i k p (λ e. absurd (omega (arith, e))) q ∙ h.stays i k (omega arith) p q;
      follows = λ e. digit_follows s h.server_whole (omega (arith, h.server_cols, tall)) here across refl (h.follows e);
    }

-- all rows
pub all_written : (r : ℕ) (s0 s c0 c a2 : WordMatrix) (w col : ℕ) (words : List ℕ) → s0.rows ≤ r → s0.rows ≡ length words * split_count w →
    IsUpdatedTo r s0 s c0 c a2 w col words → s ≡ with_column s0 col (digits_of_words w words)
all_written r s0 s c0 c a2 w col words all count h =
    matrix_by_entries s s0.rows s0.cols (λ i j. if j == col then slice_index (digits_of_words w words) i
    else entry s0 i j) h.server_rows h.server_cols h.server_whole (λ i j p q.
    ⊎_elim
    (λ e.
    ap (λ j. entry s i j) e ∙ h.written i (omega arith) p
    ∙ sym (at-list_of (length words * split_count w) (word_digit_at w words) i (omega (arith, count)))
    ∙ sym (if_here j col (slice_index (digits_of_words w words) i) (entry s0 i j) e))
    (λ apart. h.kept i j p q (λ x. apart x.1) ∙ sym (if_elsewhere j col (slice_index (digits_of_words w words) i) (entry s0 i j) apart))
    (cases_eq j col))

pub all_moved : (r : ℕ) (s0 s c0 c a2 : WordMatrix) (w col : ℕ) (words : List ℕ) → s0.rows ≤ r → c0.rows ≡ s0.rows →
    IsUpdatedTo r s0 s c0 c a2 w col words → c ≡ moved_hint c0 s0 s a2 col
all_moved r s0 s c0 c a2 w col words all high h =
    matrix_by_entries c c0.rows c0.cols (λ i k. (entry c0 i k + (entry s i col + (2 ^ 32 - entry s0 i col)) * entry a2 col k) % 2 ^ 32) h.client_rows
    h.client_cols h.client_whole (λ i k p q.
    h.moved i k (omega arith) p q
    ∙ ap (λ y. (entry c0 i k + (y + (2 ^ 32 - entry s0 i col)) * entry a2 col k) % 2 ^ 32) (sym (h.written i (omega arith) (omega arith))))

-- the server's hint with its new column is that of the digits with their new row
pub server_follows : (w : ℕ) (s d a1 : WordMatrix) (i : ℕ) (digits words : List ℕ) → 0 < split_count w → d.cols ≤ a1.rows →
    words ≡ row (product (with_row d i digits) a1) i → s ≡ server_hint_of w d a1 →
    with_column s i (digits_of_words w words) ≡ server_hint_of w (with_row d i digits) a1
server_follows w s d a1 i digits words some fits is h =
    let changed : WordMatrix = with_row d i digits in
    let new : List ℕ = digits_of_words w words in
    let count : length words ≡ a1.cols = ap length is ∙ length-row (product changed a1) i in
    ap (λ m. with_column m i new) h
    ∙ same-matrix_of (a1.cols * split_count w) d.rows (λ r j. if j == i then slice_index new r else entry (server_hint_of w d a1) r j)
    (decomposed_at w (product (transpose a1) (transpose changed))) (λ r j p q.
    let k : ℕ = r / split_count w in
    let low : k < a1.cols = div_below r (split_count w) a1.cols some p in
    let right : entry (product (transpose a1) (transpose changed)) k j ≡ dot (row changed j) (column a1 k) =
    entry-product_transposed_within a1 changed k j fits low q in
    ⊎_elim
    (λ e.
    let inside : i < d.rows = omega (arith, e, q) in
    let word : slice_index words k ≡ entry (product (transpose a1) (transpose changed)) k j =
    ap (λ (x : List ℕ). slice_index x k) is ∙ row_index (product changed a1) i k low ∙ entry-product changed a1 i k inside low
    ∙ ap (λ i. dot (row changed i) (column a1 k)) (sym e) ∙ sym right in
    if_here j i (slice_index new r) (entry (server_hint_of w d a1) r j) e
    ∙ at-list_of (length words * split_count w) (word_digit_at w words) r (rw count p)
    ∙ ap (λ x. digit w x (r % split_count w)) word)
    (λ apart.
    let kept : row d j ≡ row changed j =
    same-list_of d.cols (λ c. entry d j c) (λ c. entry changed j c) (λ c l. sym (with_row-other d i j c digits q apart l)) in
    if_elsewhere j i (slice_index new r) (entry (server_hint_of w d a1) r j) apart
    ∙ entry-matrix_of (a1.cols * split_count w) d.rows (decomposed_at w (product (transpose a1) (transpose d))) r j p q
    ∙ ap (λ x. digit w x (r % split_count w)) (entry-product_transposed_within a1 d k j fits low q ∙ ap (λ x. dot x (column a1 k)) kept ∙ sym right))
    (cases_eq j i))

-- both hints are those of the digits with their new row
pub both_follow : (w : ℕ) (s0 s c0 c a1 a2 d : WordMatrix) (i : ℕ) (digits words : List ℕ) → 0 < split_count w → d.cols ≤ a1.rows →
    words ≡ row (product (with_row d i digits) a1) i → s ≡ with_column s0 i (digits_of_words w words) → (c0 ≡ product s0 a2 → c ≡ product s a2) →
    AreHintsOf w d a1 a2 s0 c0 → AreHintsOf w (with_row d i digits) a1 a2 s c
both_follow w s0 s c0 c a1 a2 d i digits words some fits is column follows made =
    let server : s ≡ server_hint_of w (with_row d i digits) a1 = column ∙ server_follows w s0 d a1 i digits words some fits is made.server in
    record {
      server = server;
      client = follows (made.client ∙ ap (λ m. product m a2) (sym made.server)) ∙ ap (λ m. product m a2) server;
    }
