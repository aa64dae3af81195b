-- The version of the snapshot that a file has.
use Rattle.std.specs.Prelude.{ℕ}

-- its number
pub record FileVersionSeen : Type 0 where
  pub version : ℕ
