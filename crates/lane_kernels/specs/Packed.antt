-- Digits of 10 bits that are packed three in a word.
use Rattle.std.specs.Prelude.{ℕ, ◌+◌, ◌*◌, ◌/◌, ◌%◌, List, slice_index}
use Rattle.matrix_u32.specs.Matrix.{WordMatrix, matrix_of}
use Rattle.lane_kernels.specs.Digit.{digit}

-- the words of a packed row: its columns divided by 3, rounded up
abbrev pub packed_cols : ℕ → ℕ
packed_cols cols = (cols + 2) / 3

-- the matrix of the digits that words hold: row by row, digit 3 t + u of a row is digit u of its
-- word t
abbrev pub unpacked : ℕ → ℕ → List ℕ → WordMatrix
unpacked rows cols words = matrix_of rows cols (λ i j. digit 10 (slice_index words (i * packed_cols cols + j / 3)) (j % 3))
