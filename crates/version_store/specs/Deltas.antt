-- The rows of digits that publications changed.
use Rattle.std.specs.Prelude.{ℕ, List, [], ◌∷◌, filter, Bool, not, nat_eq, max}
use Rattle.std.specs.List.{range_with_len}
use Rattle.std.specs.Cmp.Lexicographic.{pointwise}
use Rattle.matrix_u32.specs.Matrix.{WordMatrix, row, widened}
use Rattle.pir_schemes.specs.declared.plan.Plan.{Plan}
use Rattle.pir_schemes.specs.Plans.{digits_at}

-- row r of a matrix, with zeros up to the greater of two matrices' columns
abbrev pub padded_row : WordMatrix → WordMatrix → WordMatrix → ℕ → List ℕ
padded_row old new a r = row (widened a (max old.cols new.cols)) r

-- whether row r of two matrices differs: a column that one of them lacks counts as zeros there
abbrev pub differs_at : WordMatrix → WordMatrix → ℕ → Bool
differs_at old new r = not (pointwise nat_eq (padded_row old new old r) (padded_row old new new r))

-- the rows in which two matrices differ, ascending
unfoldable pub changed_rows : WordMatrix → WordMatrix → List ℕ
changed_rows old new = filter (differs_at old new) (range_with_len 0 new.rows)

-- the rows of digits that each publication changed, the newest first; given are the records of the
-- current version, and those of the versions before it, the newest first
unfoldable pub changes_of : Plan → List (List ℕ) → List (List (List ℕ)) → List (List ℕ)
changes_of p current [] = []
changes_of p current (before ∷ past) = changed_rows (digits_at p before) (digits_at p current) ∷ changes_of p before past
