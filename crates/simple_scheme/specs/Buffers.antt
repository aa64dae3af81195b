-- The memory that queries and answers are made in.
use Rattle.std.specs.Prelude.{◌≡◌, ℕ, ℤ, List, length}
use Rattle.digit_pack.specs.Layout.{Shape}

-- what memory is taken for: a shape, and how many columns the public matrices have
pub record BufferSizes : Type 0 where
  pub layout : Shape
  pub dimension : ℕ

-- what hides a column or a row in an encryption: a secret and noise
pub record Masking : Type 0 where
  pub secret : List ℕ
  pub noise : List ℤ

-- a mask for an encryption under a matrix of so many rows and columns
abbrev pub HasSize : ℕ → ℕ → Masking → Type 0
HasSize rows cols mask = (length mask.secret ≡ cols) × (length mask.noise ≡ rows)
