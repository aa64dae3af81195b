-- What hints that are changed in place are afterwards. The first public matrix may have more rows
-- than the digits have columns: a product takes no more of them.
use Rattle.std.specs.Prelude.{◌≡◌, ◌≢◌, ◌⊎◌, ℕ, ◌+◌, ◌-◌, ◌*◌, ◌/◌, ◌%◌, ◌^◌, ◌<◌, ◌≤◌, ◌==◌, if◌then◌else◌, List, length, slice_index}
use Rattle.std.specs.List.Sorted.{IsStrictlyIncreasing}
use Rattle.matrix_u32.specs.Sum.{sum_below, list_of}
use Rattle.matrix_u32.specs.Matrix.{WordMatrix, IsWhole, entry, row, matrix_of, product, with_entry, with_row}
use Rattle.lane_kernels.specs.Digit.{digit, split_count}
use Rattle.double_scheme.specs.Double.{server_hint_of, client_hint_of}

-- for every matrix of digits that has `old` in the place: if the hint was made from it before, it
-- is now made from the matrix with `new` in the place
abbrev pub FollowsDigit : WordMatrix → WordMatrix → WordMatrix → ℕ → ℕ → ℕ → ℕ → Type 0
FollowsDigit before after a1 row col old new =
    (d : WordMatrix) → IsWhole d → d.cols ≤ a1.rows → row < d.rows → col < d.cols → entry d row col ≡ old →
    before ≡ product d a1 → after ≡ product (with_entry d row col new) a1

-- ---- DoublePIR
-- the matrix with other words in column j
abbrev pub with_column : WordMatrix → ℕ → List ℕ → WordMatrix
with_column a j words = matrix_of a.rows a.cols (λ r c. if c == j then slice_index words r else entry a r c)

-- digit r of words, those of each word after those of the one before
abbrev pub word_digit_at : ℕ → List ℕ → ℕ → ℕ
word_digit_at w words r = digit w (slice_index words (r / split_count w)) (r % split_count w)

-- all digits of words
abbrev pub digits_of_words : ℕ → List ℕ → List ℕ
digits_of_words w words = list_of (length words * split_count w) (word_digit_at w words)

-- the client's hint, each of its rows changed by the change of the server's digit in this row and
-- column j, times row j of a2
abbrev pub moved_hint : WordMatrix → WordMatrix → WordMatrix → WordMatrix → ℕ → WordMatrix
moved_hint hint old new a2 j =
    matrix_of hint.rows hint.cols (λ r k. (entry hint r k + (entry new r j + (2 ^ 32 - entry old r j)) * entry a2 j k) % 2 ^ 32)

-- both hints are those of a matrix of digits, made from scratch
pub record AreHintsOf (w : ℕ) (d a1 a2 server_hint client_hint : WordMatrix) : Type 0 where
  pub server : server_hint ≡ server_hint_of w d a1
  pub client : client_hint ≡ client_hint_of (server_hint_of w d a1) a2

-- for every matrix of digits: if both hints were made from it before, they are now made from the
-- matrix with other digits in row i, whatever these are, if `words` are row i of its product with
-- the public matrix
abbrev pub FollowsRow : ℕ → WordMatrix → WordMatrix → WordMatrix → WordMatrix → WordMatrix → ℕ → List ℕ → Type 0
FollowsRow w server_before server_after client_before client_after a2 i words =
    (d a1 : WordMatrix) (digits : List ℕ) → d.cols ≤ a1.rows →
    words ≡ row (product (with_row d i digits) a1) i →
    AreHintsOf w d a1 a2 server_before client_before → AreHintsOf w (with_row d i digits) a1 a2 server_after client_after

-- ---- DoublePIR, for several rows of digits, which a list names
-- rows below row n, ascending, each once
pub record AreRowsBelow (n : ℕ) (listed : List ℕ) : Type 0 where
  pub ascending : IsStrictlyIncreasing listed
  pub below : (k : ℕ) → k < length listed → slice_index listed k < n

-- whether row i is not listed
abbrev pub IsUnlisted : List ℕ → ℕ → Type 0
IsUnlisted listed i = (k : ℕ) → k < length listed → slice_index listed k ≢ i

-- the server's hint before and after the listed rows of a hint come into it: the digits of each are
-- in the column of its number
pub record TakesRows (w : ℕ) (hint old new : WordMatrix) (listed : List ℕ) : Type 0 where
  pub rows : new.rows ≡ old.rows
  pub cols : new.cols ≡ old.cols
  pub whole : IsWhole new
  pub taken : (r k : ℕ) → r < old.rows → k < length listed →
      entry new r (slice_index listed k) ≡ word_digit_at w (row hint (slice_index listed k)) r
  pub kept : (r j : ℕ) → r < old.rows → j < old.cols → IsUnlisted listed j → entry new r j ≡ entry old r j

-- the change of the digit in row r of the server's hint and the column of the k-th listed row,
-- times that row's word of a2 in column q
abbrev pub change_times : WordMatrix → WordMatrix → WordMatrix → List ℕ → ℕ → ℕ → ℕ → ℕ
change_times old new a2 listed r q k =
    (entry new r (slice_index listed k) + (2 ^ 32 - entry old r (slice_index listed k))) * entry a2 (slice_index listed k) q

-- the client's hint, each of its rows changed by the changes of the server's digits in this row and
-- the listed columns, each times that row of a2
abbrev pub moved_by_rows : WordMatrix → WordMatrix → WordMatrix → WordMatrix → List ℕ → WordMatrix
moved_by_rows hint old new a2 listed =
    matrix_of hint.rows hint.cols (λ r q. (entry hint r q + sum_below (length listed) (change_times old new a2 listed r q)) % 2 ^ 32)

-- two matrices of digits that differ in listed rows alone, and a hint that has these rows of the
-- new one's hint
pub record IsListedChange (hint a1 old new : WordMatrix) (listed : List ℕ) : Type 0 where
  pub rows : old.rows ≡ new.rows
  pub cols : old.cols ≡ new.cols
  pub inner : new.cols ≤ a1.rows
  pub changed : (k : ℕ) → k < length listed → row hint (slice_index listed k) ≡ row (product new a1) (slice_index listed k)
  pub others : (i : ℕ) → i < new.rows → IsUnlisted listed i → row new i ≡ row old i

-- for every two such matrices: if both hints were made from the old one, they are now made from the
-- new one
abbrev pub FollowsListed : ℕ → WordMatrix → WordMatrix → WordMatrix → WordMatrix → WordMatrix → WordMatrix → List ℕ → Type 0
FollowsListed w hint a2 server_before server_after client_before client_after listed =
    (old new a1 : WordMatrix) → IsListedChange hint a1 old new listed →
    AreHintsOf w old a1 a2 server_before client_before → AreHintsOf w new a1 a2 server_after client_after

-- ---- in blocks
-- rows of the server's hint, `count` of them from row `first` on, before and after the digits of
-- listed rows come into them
pub record TakesBlock (w : ℕ) (hint old new : WordMatrix) (listed : List ℕ) (first count : ℕ) : Type 0 where
  pub rows : new.rows ≡ old.rows
  pub cols : new.cols ≡ old.cols
  pub whole : IsWhole new
  pub taken : (r k : ℕ) → first ≤ r → r < first + count → k < length listed →
      entry new r (slice_index listed k) ≡ word_digit_at w (row hint (slice_index listed k)) r
  pub unlisted : (r j : ℕ) → r < old.rows → j < old.cols → IsUnlisted listed j → entry new r j ≡ entry old r j
  pub elsewhere : (r j : ℕ) → r < old.rows → j < old.cols → (r < first) ⊎ (first + count ≤ r) → entry new r j ≡ entry old r j

-- the change of the digit in row r and the column of the k-th listed row to that of this row of a
-- hint, modulo 2 ^ 32
abbrev pub digit_change : ℕ → WordMatrix → WordMatrix → List ℕ → ℕ → ℕ → ℕ
digit_change w hint old listed r k =
    (word_digit_at w (row hint (slice_index listed k)) r + (2 ^ 32 - entry old r (slice_index listed k))) % 2 ^ 32

-- a matrix before and after, to `count` of its rows from row `first` on, n rows of another from row
-- t on are added, each times its factor
pub record AddsRows (old new : WordMatrix) (first count : ℕ) (factors b : WordMatrix) (t n : ℕ) : Type 0 where
  pub rows : new.rows ≡ old.rows
  pub cols : new.cols ≡ old.cols
  pub whole : IsWhole new
  pub added : (i q : ℕ) → i < count → q < old.cols →
      entry new (first + i) q ≡ (entry old (first + i) q + sum_below n (λ k. entry factors i (t + k) * entry b (t + k) q)) % 2 ^ 32
  pub elsewhere : (r q : ℕ) → r < old.rows → q < old.cols → (r < first) ⊎ (first + count ≤ r) → entry new r q ≡ entry old r q
