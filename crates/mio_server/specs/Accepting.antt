-- Whether a peer may have one more connection.
use Rattle.std.specs.Prelude.{◌≤◌, ℕ, Option, IsSomeAnd}

-- A peer with so many connections may have no more.
abbrev pub HasEnough : Option ℕ → ℕ → Type 0
HasEnough bound count = IsSomeAnd bound (λ most. most ≤ count)
