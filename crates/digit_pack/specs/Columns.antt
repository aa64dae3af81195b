-- Part of a column of a matrix that is written over.
use Rattle.std.specs.Prelude.{◌≡◌, ℕ, ◌+◌, ◌<◌, ◌≤◌, List, length, slice_index}
use Rattle.matrix_u32.specs.Matrix.{WordMatrix, IsWhole, entry}

-- row r, column j is one of `count` places of column col from row first down
abbrev pub IsWithin : ℕ → ℕ → ℕ → ℕ → ℕ → Type 0
IsWithin first col count r j = (j ≡ col) × (first ≤ r) × (r < first + count)

-- the new matrix has the first `count` words in column col, from row first down, and all else as
-- the old one
pub record WritesFirst (old new : WordMatrix) (first col count : ℕ) (words : List ℕ) : Type 0 where
  pub rows : new.rows ≡ old.rows
  pub cols : new.cols ≡ old.cols
  pub whole : IsWhole new
  pub here : (d : ℕ) → d < count → entry new (first + d) col ≡ slice_index words d
  pub elsewhere : (r j : ℕ) → r < old.rows → j < old.cols → ¬ IsWithin first col count r j → entry new r j ≡ entry old r j

-- the new matrix has all these words in column col, from row first down, and all else as the old
-- one
abbrev pub WritesColumn : WordMatrix → WordMatrix → ℕ → ℕ → List ℕ → Type 0
WritesColumn old new first col words = WritesFirst old new first col (length words) words
