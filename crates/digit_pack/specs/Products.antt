-- Products of some rows of a matrix.
use Rattle.std.specs.Prelude.{ℕ, ◌+◌, List}
use Rattle.matrix_u32.specs.Sum.{list_of, dot}
use Rattle.matrix_u32.specs.Matrix.{WordMatrix, row}

-- so many rows of a, from one on, times x
abbrev pub rows_times_vector : WordMatrix → List ℕ → ℕ → ℕ → List ℕ
rows_times_vector a x first count = list_of count (λ i. dot (row a (first + i)) x)
