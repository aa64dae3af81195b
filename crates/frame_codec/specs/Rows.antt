-- Rows of a hint one after another.
use Rattle.std.specs.Prelude.{◌≡◌, ℕ, ◌+◌, ◌*◌, ◌/◌, List, ◌∷◌, length, map, slice_index, take, drop}
use Rattle.std.specs.List.{flat_map, range_with_len}

-- a row: its number and its words
pub record Row : Type 0 where
  pub number : ℕ
  pub words : List ℕ

-- rows one after another: of each its number, and then as many words as the dimension says
pub record RowList : Type 0 where
  pub dimension : ℕ
  pub words : List ℕ

-- so many rows are there, and nothing after them
pub record HasWholeRows (rows : RowList) : Type 0 where
  pub count : ℕ
  pub len : length rows.words ≡ count * (rows.dimension + 1)

-- rows of n words each, one after another
abbrev pub row_list : ℕ → List Row → RowList
row_list n rows = record { dimension = n; words = flat_map (λ r. r.number ∷ r.words) rows }

-- how many rows a row list has
abbrev pub row_count : RowList → ℕ
row_count rows = length rows.words / (rows.dimension + 1)

-- row j of a row list
abbrev pub row_at : RowList → ℕ → Row
row_at rows j = record {
  number = slice_index rows.words (j * (rows.dimension + 1));
  words = take rows.dimension (drop (j * (rows.dimension + 1) + 1) rows.words);
}

-- the rows of a row list
abbrev pub rows_in : RowList → List Row
rows_in rows = map (row_at rows) (range_with_len 0 (row_count rows))
