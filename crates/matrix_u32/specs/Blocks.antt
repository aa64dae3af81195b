-- Rows that are added to a list of words.
use Rattle.std.specs.Prelude.{ℕ, ◌+◌, ◌*◌, ◌%◌, ◌^◌, List, length, slice_index}
use Rattle.matrix_u32.specs.Sum.{sum_below, list_of}
use Rattle.matrix_u32.specs.Matrix.{WordMatrix, entry}

-- a list to which n rows of b from `start` on were added, each times its factor
abbrev pub plus_rows : List ℕ → ℕ → (ℕ → ℕ) → WordMatrix → ℕ → List ℕ
plus_rows out n f b start = list_of (length out) (λ j. (slice_index out j + sum_below n (λ k. f k * entry b (start + k) j)) % 2 ^ 32)
