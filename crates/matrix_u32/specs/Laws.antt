-- Laws of products.
use Rattle.std.specs.Prelude.{◌≡◌, ◌≢◌, ℕ, ◌+◌, ◌-◌, ◌*◌, ◌%◌, ◌^◌, ◌<◌, ◌≤◌, List}
use Rattle.matrix_u32.specs.Matrix.{WordMatrix, IsWhole, entry, product, times_vector, transpose, with_entry, widened, first_rows, with_rows}

-- (a b) s = a (b s)
abbrev pub ProductIsAssociative : Type 0
ProductIsAssociative = (a b : WordMatrix) (s : List ℕ) → a.cols ≡ b.rows → times_vector (product a b) s ≡ times_vector a (times_vector b s)

-- (d a)^T = a^T d^T
abbrev pub ProductTransposes : Type 0
ProductTransposes = (d a : WordMatrix) → a.rows ≡ d.cols → transpose (product d a) ≡ product (transpose a) (transpose d)

-- a changed word of d changes its row of d a, by the difference times a row of a, and no other
pub record RowChange (d a : WordMatrix) (i j word : ℕ) : Type 0 where
  pub same_row : (k : ℕ) → k < a.cols →
      entry (product (with_entry d i j word) a) i k ≡ (entry (product d a) i k + (word + (2 ^ 32 - entry d i j)) * entry a j k) % 2 ^ 32
  pub other_rows : (r k : ℕ) → r < d.rows → r ≢ i → k < a.cols → entry (product (with_entry d i j word) a) r k ≡ entry (product d a) r k

-- a product whose left factor changes in one word changes in that row alone
abbrev pub ChangedWordChangesItsRow : Type 0
ChangedWordChangesItsRow = (d a : WordMatrix) (i j word : ℕ) →
    IsWhole d → d.cols ≤ a.rows → i < d.rows → j < d.cols → entry d i j < 2 ^ 32 → RowChange d a i j word

-- a product whose left factor is given columns of zeros stays as it was
abbrev pub ZeroColumnsAddNothing : Type 0
ZeroColumnsAddNothing = (d a : WordMatrix) (cols : ℕ) → d.cols ≤ cols → product (widened d cols) a ≡ product d a

-- a product takes as many rows of its right factor as the left one has columns, and any further
-- ones leave it unchanged
abbrev pub FurtherRowsAddNothing : Type 0
FurtherRowsAddNothing = (d a : WordMatrix) (n : ℕ) → d.cols ≤ n → n ≤ a.rows → product d a ≡ product d (first_rows a n)

-- a product whose left factor is given columns of zeros, and the right one further rows, stays as
-- it was
abbrev pub GrowthLeavesProduct : Type 0
GrowthLeavesProduct = (d a : WordMatrix) (cols : ℕ) (words : List ℕ) →
    IsWhole a → d.cols ≤ a.rows → d.cols ≤ cols → product (widened d cols) (with_rows a words) ≡ product d a
