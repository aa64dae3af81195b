-- What in the queries of several retrievals depends on no record: products of the public matrix and
-- their secrets.
use Rattle.std.specs.Prelude.{ℕ, ◌+◌, List, slice_index}
use Rattle.matrix_u32.specs.Sum.{dot}
use Rattle.matrix_u32.specs.Matrix.{WordMatrix, matrix_of, row}
use Rattle.simple_scheme.specs.Simple.{secret}

-- what memory for masks is taken for: the rows and the columns of the public matrix, and how many
-- retrievals
pub record MaskSizes : Type 0 where
  pub rows : ℕ
  pub dimension : ℕ
  pub count : ℕ

-- the secrets of `count` retrievals from number `first` on: a row of n words for each
abbrev pub secrets_of : List ℕ → ℕ → ℕ → ℕ → WordMatrix
secrets_of seed first count n = matrix_of count n (λ c k. slice_index (secret seed (first + c) n) k)

-- the masks of `count` retrievals from number `first` on: for each row of the public matrix its
-- product with each secret
unfoldable pub masks_of : WordMatrix → List ℕ → ℕ → ℕ → WordMatrix
masks_of a1 seed first count = matrix_of a1.rows count (λ j c. dot (row a1 j) (secret seed (first + c) a1.cols))

-- the products of each row of a matrix with each row of another, which has as many columns
abbrev pub row_products : WordMatrix → WordMatrix → WordMatrix
row_products a b = matrix_of a.rows b.rows (λ j c. dot (row a j) (row b c))
