-- Numbers written in digits of w bits, the least significant first. A byte is a digit of 8 bits.
use Rattle.std.specs.Prelude.{ℕ, ◌+◌, ◌*◌, ◌/◌, ◌%◌, ◌^◌, List, length, slice_index}
use Rattle.matrix_u32.specs.Sum.{sum_below, list_of}
use Rattle.lane_kernels.specs.Digit.{digit, split_count}
use Rattle.matrix_u32.specs.Matrix.{WordMatrix, entry, matrix_of}

-- the first `count` digits of w bits of a number, the least significant first
abbrev pub digits_of : ℕ → ℕ → ℕ → List ℕ
digits_of w count number = list_of count (λ t. digit w number t)

-- the number that digits of w bits write, the least significant first
unfoldable pub number_of : ℕ → List ℕ → ℕ
number_of w digits = sum_below (length digits) (λ t. slice_index digits t * 2 ^ (w * t))

-- row k * split_count + t has digit t of each word of row k
abbrev pub decomposed_at : ℕ → WordMatrix → ℕ → ℕ → ℕ
decomposed_at w a r j = digit w (entry a (r / split_count w) j) (r % split_count w)

-- a matrix of words, each word as a column of its digits
abbrev pub decomposed : ℕ → WordMatrix → WordMatrix
decomposed w a = matrix_of (a.rows * split_count w) a.cols (decomposed_at w a)

-- the word that digits of w bits write: their number modulo 2 ^ 32
abbrev pub joined : ℕ → List ℕ → ℕ
joined w digits = number_of w digits % 2 ^ 32

-- the word that split_count rows from row k split_count on have in column j
abbrev pub recomposed_at : ℕ → WordMatrix → ℕ → ℕ → ℕ
recomposed_at w a k j = joined w (list_of (split_count w) (λ t. entry a (k * split_count w + t) j))

-- the matrix of the words whose digits those are
abbrev pub recomposed : ℕ → WordMatrix → WordMatrix
recomposed w a = matrix_of (a.rows / split_count w) a.cols (recomposed_at w a)
