-- Matrices of words and their products.
use Rattle.std.specs.Prelude.{◌≡◌, ℕ, ◌+◌, ◌*◌, ◌/◌, ◌%◌, ◌^◌, ◌==◌, ◌++◌, if◌then◌else◌, List, length, take, drop, replicate, slice_index, slice_set, nat_lt}
use Rattle.matrix_u32.specs.Sum.{list_of, dot}

-- a matrix: how many rows and columns it has, and its words row by row
pub record WordMatrix : Type 0 where
  pub rows : ℕ
  pub cols : ℕ
  pub words : List ℕ

-- the most words that a matrix holds, 2 ^ 25
abbrev pub most_words : ℕ
most_words = 33554432

-- the word in row i, column j
abbrev pub entry : WordMatrix → ℕ → ℕ → ℕ
entry a i j = slice_index a.words (i * a.cols + j)

-- the matrix with f i j in row i, column j
abbrev pub matrix_of : ℕ → ℕ → (ℕ → ℕ → ℕ) → WordMatrix
matrix_of rows cols f = record { rows = rows; cols = cols; words = list_of (rows * cols) (λ k. f (k / cols) (k % cols)) }

-- a matrix with as many words as rows times columns
abbrev pub IsWhole : WordMatrix → Type 0
IsWhole a = length a.words ≡ a.rows * a.cols

-- the words of row i
abbrev pub row : WordMatrix → ℕ → List ℕ
row a i = list_of a.cols (λ j. entry a i j)

-- the words of column j
abbrev pub column : WordMatrix → ℕ → List ℕ
column a j = list_of a.rows (λ i. entry a i j)

-- the matrix with rows and columns exchanged
abbrev pub transpose : WordMatrix → WordMatrix
transpose a = matrix_of a.cols a.rows (λ i j. entry a j i)

-- a b
abbrev pub product : WordMatrix → WordMatrix → WordMatrix
product a b = matrix_of a.rows b.cols (λ i j. dot (row a i) (column b j))

-- a x
abbrev pub times_vector : WordMatrix → List ℕ → List ℕ
times_vector a x = list_of a.rows (λ i. dot (row a i) x)

-- x a
abbrev pub vector_times : List ℕ → WordMatrix → List ℕ
vector_times x a = list_of a.cols (λ j. dot x (column a j))

-- the matrix with another word in row i, column j
abbrev pub with_entry : WordMatrix → ℕ → ℕ → ℕ → WordMatrix
with_entry a i j word = record a { words = slice_set a.words (i * a.cols + j) word }

-- the list with k x added to it, word by word
abbrev pub plus_scaled : List ℕ → List ℕ → ℕ → List ℕ
plus_scaled out x k = list_of (length out) (λ j. (slice_index out j + k * slice_index x j) % 2 ^ 32)

-- the word in row i, column j, with 0 in columns past the last
abbrev pub entry_or_zero : WordMatrix → ℕ → ℕ → ℕ
entry_or_zero a i j = if nat_lt j a.cols then entry a i j else 0

-- the matrix with so many columns, those past its last all 0
abbrev pub widened : WordMatrix → ℕ → WordMatrix
widened a cols = matrix_of a.rows cols (entry_or_zero a)

-- the matrix with further rows below its own, of these words
abbrev pub with_rows : WordMatrix → List ℕ → WordMatrix
with_rows a words = record a { rows = a.rows + length words / a.cols; words = a.words ++ words }

-- words that are a whole number of rows; if a row has no words, no words at all
abbrev pub AreWholeRows : ℕ → List ℕ → Type 0
AreWholeRows cols words = (n : ℕ) × (length words ≡ n * cols)

-- the first rows of a matrix
abbrev pub first_rows : WordMatrix → ℕ → WordMatrix
first_rows a n = record { rows = n; cols = a.cols; words = take (n * a.cols) a.words }

-- the matrix of zeros
abbrev pub zero_matrix : ℕ → ℕ → WordMatrix
zero_matrix rows cols = record { rows = rows; cols = cols; words = replicate (rows * cols) 0 }

-- the matrix with other words in row i
abbrev pub with_row : WordMatrix → ℕ → List ℕ → WordMatrix
with_row a i words = matrix_of a.rows a.cols (λ r j. if r == i then slice_index words j else entry a r j)

-- a list with others written over it from a place on, as long as it was
abbrev pub overwritten : ℕ → List ℕ → List ℕ → List ℕ
overwritten place new old = take (length old) (take place old ++ (new ++ drop (length new) (drop place old)))

-- the matrix with words written over it from the start of row i on; as many as there are columns
-- give `with_row`
abbrev pub written_row : WordMatrix → ℕ → List ℕ → WordMatrix
written_row a i words = record a { words = overwritten (i * a.cols) words a.words }
