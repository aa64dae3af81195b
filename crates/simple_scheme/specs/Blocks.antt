-- Some rows of a matrix.
use Rattle.std.specs.Prelude.{ℕ, ◌+◌}
use Rattle.matrix_u32.specs.Matrix.{WordMatrix, entry, matrix_of}

-- so many rows of a matrix, from one on
abbrev pub rows_from : WordMatrix → ℕ → ℕ → WordMatrix
rows_from a start count = matrix_of count a.cols (λ i j. entry a (start + i) j)
