-- Bytes of which only a part went out.
use Rattle.std.specs.Prelude.{◌≡◌, ◌<◌, ◌++◌, ℕ, List, length}

-- some bytes are a part of what was owed, from its start on, and not all of it
abbrev pub IsCutOff : List ℕ → List ℕ → Type 0
IsCutOff out owed = (rest : List ℕ) × (owed ≡ out ++ rest) × (0 < length rest)
