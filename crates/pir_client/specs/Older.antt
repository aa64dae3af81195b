-- Servers of an older version than one that was seen before.
use Rattle.std.specs.Prelude.{◌≡◌, ◌≤◌, ◌<◌, ℕ, Option, Some, None}
use Rattle.pir_client.specs.declared.older.Older.{Older}

-- a server's version is lower than one seen before, and both are named; or it is not lower
abbrev pub IsOlderThan : ℕ → ℕ → Option Older → Type 0
IsOlderThan seen version None = seen ≤ version
IsOlderThan seen version (Some older) = (version < seen) × (older.version ≡ version) × (older.seen ≡ seen)
