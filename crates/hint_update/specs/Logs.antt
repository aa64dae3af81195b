-- The rows that the latest publications changed.
use Rattle.std.specs.Prelude.{ℕ, ◌+◌, ◌-◌, ◌≤◌, ◌↔◌, List, ◌∷◌, length, take}
use Rattle.std.specs.List.{Contains, flat_map}
use Rattle.std.specs.List.Sorted.{IsStrictlyIncreasing}

-- the number of the current version, and a list of rows for each of the publications that led to
-- it, the newest first
pub record Log : Type 0 where
  pub version : ℕ
  pub lists : List (List ℕ)

-- a publication: its rows, and the 15 lists before it
abbrev pub with_publication : List ℕ → Log → Log
with_publication rows log = record { version = log.version + 1; lists = take 16 (rows ∷ log.lists) }

-- the current version, or one so many publications before it as there are lists of
abbrev pub ReachesBack : Log → ℕ → Type 0
ReachesBack log v = (v ≤ log.version) × (log.version - v ≤ length log.lists)

-- the lists that were added since a version was the current one
abbrev pub lists_since : Log → ℕ → List (List ℕ)
lists_since log v = take (log.version - v) log.lists

-- the rows of some lists: ascending, each once
pub record AreRowsOf (lists : List (List ℕ)) (rows : List ℕ) : Type 0 where
  pub ascending : IsStrictlyIncreasing rows
  pub each : (r : ℕ) → Contains rows r ↔ Contains (flat_map (λ list. list) lists) r
