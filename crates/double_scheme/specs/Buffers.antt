-- The memory that answers and queries are made in, by its sizes.
use Rattle.std.specs.Prelude.{◌≡◌, ◌<◌, ◌≤◌, ◌*◌, ℕ, List, length}
use Rattle.matrix_u32.specs.Matrix.{WordMatrix, row, times_vector}
use Rattle.lane_kernels.specs.Digit.{split_count}
use Rattle.digit_pack.specs.Layout.{Shape, digit_rows, digit_cols, digits_per_record}
use Rattle.simple_scheme.specs.Buffers.{Masking}
use Rattle.double_scheme.specs.declared.queries.PartBuffers.{PartBuffers}
use Rattle.double_scheme.specs.Double.{part_secret, double_query_count, double_answer_count}

-- the memory of an answer: a word for each row of digits, their digits, these times the second
-- public matrix, and the answer
pub record HasAnswerBuffers (l : Shape) (column : List ℕ) (first hint : WordMatrix) (words : List ℕ) : Type 0 where
  pub column_len : length column ≡ digit_rows l
  pub first_rows : first.rows ≡ split_count l.width
  pub first_cols : first.cols ≡ digit_rows l
  pub hint_rows : hint.rows ≡ split_count l.width
  pub dimension : hint.cols ≤ 1024
  pub words_len : length words ≡ double_answer_count l hint.cols

-- what a query's memory is taken for: a shape, and how many columns either public matrix has
pub record QuerySizes : Type 0 where
  pub layout : Shape
  pub first_dimension : ℕ
  pub second_dimension : ℕ

-- the memory of a query's parts: a secret for each, noise and products for each row, and what one
-- row gives
pub record HasPartBuffers (l : Shape) (room : PartBuffers) : Type 0 where
  pub dimension : length room.row.items ≤ 1024
  pub secrets : length room.secrets.items ≡ digits_per_record l * length room.row.items
  pub noise : length room.noise.items ≡ digit_rows l
  pub column : length room.column.items ≡ digits_per_record l
  pub product_rows : room.products.rows ≡ digits_per_record l
  pub product_cols : room.products.cols ≡ digit_rows l

-- of each part the products of the second public matrix and the part's secret, in its row
abbrev pub HasProducts : ℕ → WordMatrix → List ℕ → ℕ → WordMatrix → Type 0
HasProducts parts a2 seed number products = (d : ℕ) → d < parts → row products d ≡ times_vector a2 (part_secret seed number a2.cols d)

-- the memory of a query: a mask for its column, that of its parts, and its words
pub record HasQueryBuffers (l : Shape) (mask : Masking) (parts : PartBuffers) (words : List ℕ) : Type 0 where
  pub noise : length mask.noise ≡ digit_cols l
  pub part_buffers : HasPartBuffers l parts
  pub words_len : length words ≡ double_query_count l
