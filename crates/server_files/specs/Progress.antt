-- What is said of an input while it is read.
use Rattle.std.specs.Prelude.{ℕ, ◌+◌, ◌-◌, ◌*◌, ◌/◌, List, ◌++◌, Option, None, Some, codes, decimal}

-- how many seconds are left, rounded up, if some of a whole took so many milliseconds, and the
-- rest goes on likewise
abbrev pub seconds_left : ℕ → ℕ → ℕ → ℕ
seconds_left passed done whole = (passed * (whole - done) / done + 999) / 1000

-- the line after so many bytes, with the seconds that are left if these are known
abbrev pub progress_line : ℕ → Option ℕ → List ℕ
progress_line bytes None = codes "input: " ++ (decimal bytes ++ codes " bytes")
progress_line bytes (Some left) = codes "input: " ++ (decimal bytes ++ (codes " bytes, " ++ (decimal left ++ codes " s left")))
