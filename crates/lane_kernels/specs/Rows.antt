-- Rows that are added at once, and blocks of inner places that are.
use Rattle.std.specs.Prelude.{◌≡◌, ℕ, ◌+◌, ◌*◌, ◌%◌, ◌^◌, ◌<◌, ◌≤◌, List, length, slice_index}
use Rattle.matrix_u32.specs.Sum.{list_of, sum_below}
use Rattle.matrix_u32.specs.Matrix.{WordMatrix, IsWhole, entry, matrix_of}

-- out + f p + g q + h r + e s, word by word
abbrev pub plus_four : List ℕ → List ℕ → List ℕ → List ℕ → List ℕ → ℕ → ℕ → ℕ → ℕ → List ℕ
plus_four out p q r s f g h e =
    list_of (length out) (λ j. (slice_index out j + f * slice_index p j + g * slice_index q j + h * slice_index r j + e * slice_index s j) % 2 ^ 32)

-- a matrix to which the products of n inner places of a and b from `start` on were added
abbrev pub plus_products : WordMatrix → WordMatrix → WordMatrix → ℕ → ℕ → WordMatrix
plus_products out a b start n =
    matrix_of out.rows out.cols (λ i j. (entry out i j + sum_below n (λ k. entry a i (start + k) * entry b (start + k) j)) % 2 ^ 32)

-- a matrix whose rows below i have the products of a block added, and whose other rows are as they
-- were
pub record AddedBelow (old a b : WordMatrix) (start count i : ℕ) (m : WordMatrix) : Type 0 where
  pub rows : m.rows ≡ old.rows
  pub cols : m.cols ≡ old.cols
  pub whole : IsWhole m
  pub done : (p q : ℕ) → p < i → q < old.cols → entry m p q
      ≡ (entry old p q + sum_below count (λ k. entry a p (start + k) * entry b (start + k) q)) % 2 ^ 32
  pub rest : (p q : ℕ) → i ≤ p → p < old.rows → q < old.cols → entry m p q ≡ entry old p q
