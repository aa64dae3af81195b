-- Laws of one layer of encryption.
use Rattle.std.specs.Prelude.{◌≡◌, ◌≢◌, ℕ, ◌+◌, ◌%◌, ◌<◌, ◌^◌, List, ℤ, length, slice_index}
use Rattle.matrix_u32.specs.Sum.{dot}
use Rattle.matrix_u32.specs.Matrix.{WordMatrix, entry, row, product, times_vector, vector_times}
use Rattle.noise_table.specs.Margin.{IsQuiet, delta}
use Rattle.regev_core.specs.Encryption.{cipher, stripped, nearest, IsNearest}

-- a quiet row of digits times a ciphertext, stripped and rounded, is the row's digit at the place
abbrev pub QuietRowGivesItsDigit : Type 0
QuietRowGivesItsDigit = (w : ℕ) (a : WordMatrix) (s : List ℕ) (e : List ℤ) (place : ℕ) (x : List ℕ) →
    w < 32 → length x ≡ a.rows → place < a.rows → slice_index x place < 2 ^ w → IsQuiet w x e →
    nearest w (stripped (dot x (cipher w a s e place)) (vector_times x a) s) ≡ slice_index x place

-- row r of a matrix of digits, whose hint is the matrix times the public one, gives its entry if it
-- is quiet
abbrev pub QuietMatrixRowGivesItsEntry : Type 0
QuietMatrixRowGivesItsEntry = (w : ℕ) (m a : WordMatrix) (s : List ℕ) (e : List ℤ) (r place : ℕ) →
    w < 32 → r < m.rows → m.cols ≡ a.rows → place < a.rows → entry m r place < 2 ^ w → IsQuiet w (row m r) e →
    nearest w (stripped (slice_index (times_vector m (cipher w a s e place)) r) (row (product m a) r) s) ≡ entry m r place

-- each word has a nearest digit, and only one
abbrev pub NearestIsTheOnly : Type 0
NearestIsTheOnly = (w word : ℕ) → w < 32 →
    IsNearest w word (nearest w word) × ((d : ℕ) → IsNearest w word d → d ≡ nearest w word)

-- two encryptions under one secret and noise differ at their places alone, there by delta
pub record DifferAtPlaces (w place other : ℕ) (c d : List ℕ) : Type 0 where
  pub here : slice_index c place ≡ (slice_index d place + delta w) % 2 ^ 32
  pub there : slice_index d other ≡ (slice_index c other + delta w) % 2 ^ 32
  pub elsewhere : (k : ℕ) → k < length c → k ≢ place → k ≢ other → slice_index c k ≡ slice_index d k

-- two ciphers of the same secret and noise, for two places, differ there alone, by delta
abbrev pub CiphersDifferAtTheirPlaces : Type 0
CiphersDifferAtTheirPlaces = (w : ℕ) (a : WordMatrix) (s : List ℕ) (e : List ℤ) (place other : ℕ) →
    place < a.rows → other < a.rows → place ≢ other → DifferAtPlaces w place other (cipher w a s e place) (cipher w a s e other)
