-- When a service stops, and when it is over.
use Rattle.std.specs.Prelude.{◌≡◌, ◌≤◌, ◌+◌, ◌-◌, ◌^◌, ◌⊎◌, ℕ, Bool, true, false, min}
use Rattle.service_status.specs.declared.stopping.Phase.{Phase}
use Rattle.service_status.specs.declared.stopping.Phase.TheVariants.{Serving, Stopping}

-- The phase of a service whose input ended at a moment: it stops so many milliseconds later at
-- most, or when it would have before.
abbrev pub stopping_from : ℕ → ℕ → Phase → Phase
stopping_from now grace Serving = Stopping (min (now + grace) (2 ^ 64 - 1))
stopping_from now grace (Stopping until) = Stopping until

-- A service is over once it stops and has no connection, or no more time.
abbrev pub IsOver : Phase → ℕ → ℕ → Type 0
IsOver Serving now count = ⊥
IsOver (Stopping until) now count = (count ≡ 0) ⊎ (until ≤ now)

-- whether a service stops
abbrev pub is_stopping : Phase → Bool
is_stopping Serving = false
is_stopping (Stopping until) = true
