-- What is said of a hint while it is made.
use Rattle.std.specs.Prelude.{ℕ, List, ◌++◌, codes, decimal}

-- the line after so many rows of a hint, of so many in all, with the seconds that are left
abbrev pub hint_line : ℕ → ℕ → ℕ → List ℕ
hint_line made rows left =
    codes "hint: " ++ (decimal made ++ (codes " of " ++ (decimal rows ++ (codes " rows, " ++ (decimal left ++ codes " s left\n")))))
