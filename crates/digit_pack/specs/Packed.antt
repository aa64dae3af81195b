-- Three digits of 10 bits in a word.
use Rattle.std.specs.Prelude.{◌≡◌, ℕ, ◌+◌, ◌*◌, ◌/◌, ◌%◌, ◌^◌, ◌<◌, ◌==◌, List, if◌then◌else◌}
use Rattle.matrix_u32.specs.Sum.{list_of}
use Rattle.matrix_u32.specs.Matrix.{WordMatrix, entry_or_zero}
use Rattle.lane_kernels.specs.Packed.{packed_cols, unpacked}

-- word t of row r is the sum of the digits in columns 3 t + u, times 2 ^ (10 u), for u from 0 to 2
abbrev pub packed_word : WordMatrix → ℕ → ℕ → ℕ
packed_word a r t = entry_or_zero a r (3 * t) + entry_or_zero a r (3 * t + 1) * 2 ^ 10 + entry_or_zero a r (3 * t + 2) * 2 ^ 20

-- the words of a matrix of digits, row by row
abbrev pub packed : WordMatrix → List ℕ
packed a = list_of (a.rows * packed_cols a.cols) (λ k. packed_word a (k / packed_cols a.cols) (k % packed_cols a.cols))

-- words that are the packed list of the digits that they hold
pub record IsPacked (rows cols : ℕ) (words : List ℕ) : Type 0 where
  pub same : words ≡ packed (unpacked rows cols words)

-- a word of three digits with another digit in one of the three places
abbrev pub IsReplaced : ℕ → ℕ → ℕ → ℕ → Type 0
IsReplaced word t digit result =
    (a b c : ℕ) → a < 1024 → b < 1024 → c < 1024 → word ≡ a + b * 2 ^ 10 + c * 2 ^ 20 →
    result ≡ (if t == 0 then digit else a) + (if t == 1 then digit else b) * 2 ^ 10 + (if t == 2 then digit else c) * 2 ^ 20
