-- Hints after the moves of a file of changes.
use Rattle.std.specs.Prelude.{ℕ, List, [], ◌∷◌}
use Rattle.matrix_u32.specs.Matrix.{WordMatrix}
use Rattle.seed_expand.specs.Words.{public_rows}
use Rattle.digit_pack.specs.Layout.{Shape, digit_cols}
use Rattle.hint_changes.specs.Changes.{moved}
use Rattle.hint_changes.specs.Entries.{changes_in}
use Rattle.change_file.specs.Files.{HintMove}

-- the shape of so many records
abbrev pub shape_with_count : Shape → ℕ → Shape
shape_with_count l count = record l { count = count }

-- a SimplePIR hint after a move, in the shape of its count, under the first public matrix of a seed
abbrev pub moved_once : Shape → List ℕ → ℕ → HintMove → WordMatrix → WordMatrix
moved_once l seed dimension m hint =
    moved (shape_with_count l m.count) (public_rows seed 0 0 (digit_cols (shape_with_count l m.count)) dimension) (changes_in l.record_len m.entries) hint

-- a SimplePIR hint after moves, one after another
abbrev pub moved_by_all : Shape → List ℕ → ℕ → List HintMove → WordMatrix → WordMatrix
moved_by_all l seed dimension [] hint = hint
moved_by_all l seed dimension (m ∷ ms) hint = moved_by_all l seed dimension ms (moved_once l seed dimension m hint)
