-- Laws of hints that are moved.
use Rattle.std.specs.Prelude.{◌≡◌, ◌≢◌, ◌≤◌, ◌<◌, ◌%◌, ◌∷◌, [], List, ℕ, length, slice_index, nat_eq, false}
use Rattle.std.specs.List.{Contains}
use Rattle.std.specs.List.Sorted.{IsStrictlyIncreasing}
use Rattle.std.specs.Cmp.Lexicographic.{pointwise}
use Rattle.matrix_u32.specs.Matrix.{WordMatrix, product}
use Rattle.digit_pack.specs.Layout.{Shape, IsShape, digit_matrix, digit_rows, digit_cols, record_at}
use Rattle.hint_changes.specs.Changes.{ChangedRecord, AreChangesOf, LeadTo, changes_at, changes_between, moved, records_after, rows_in_place}

-- the hint of some records, moved by changes of them, is the one made from scratch of the records
-- after
abbrev pub MovedHintIsMadeFromScratch : Type 0
MovedHintIsMadeFromScratch = (l : Shape) (changes : List ChangedRecord) (records : List (List ℕ)) (a1 : WordMatrix) →
    IsShape l → digit_cols l ≤ a1.rows → AreChangesOf l changes records →
    moved l a1 changes (product (digit_matrix l records) a1) ≡ product (digit_matrix l (records_after changes records)) a1

-- the hint of some records, moved by changes that lead to others, in any order, is the one made
-- from scratch of these
abbrev pub ChangesMoveTheHint : Type 0
ChangesMoveTheHint = (l : Shape) (changes : List ChangedRecord) (before after : List (List ℕ)) (a1 : WordMatrix) →
    IsShape l → digit_cols l ≤ a1.rows → LeadTo l changes before after →
    moved l a1 changes (product (digit_matrix l before) a1) ≡ product (digit_matrix l after) a1

-- changes are made one by one
abbrev pub ChangesAreMadeOneByOne : Type 0
ChangesAreMadeOneByOne = (l : Shape) (a1 hint : WordMatrix) (c : ChangedRecord) (more : List ChangedRecord) →
    moved l a1 (c ∷ more) hint ≡ moved l a1 more (moved l a1 (c ∷ []) hint)

-- the changes between two lists of records of equal length lead from the one to the other
abbrev pub ChangesBetweenLead : Type 0
ChangesBetweenLead = (l : Shape) (before after : List (List ℕ)) → length before ≡ length after → length after ≤ l.count →
    LeadTo l (changes_between before after) before after

-- a change of a record leaves the rows of the records in another place of their columns
abbrev pub OtherPlacesStay : Type 0
OtherPlacesStay = (l : Shape) (a1 hint : WordMatrix) (c : ChangedRecord) (g : ℕ) →
    hint.rows ≡ digit_rows l → g < l.groups → c.index % l.groups ≢ g →
    rows_in_place l g (moved l a1 (c ∷ []) hint) ≡ rows_in_place l g hint

-- the changes of listed records are all that there are, if the list is ascending and names each
-- record that differs
abbrev pub ListedChangesAreAll : Type 0
ListedChangesAreAll = (before after : List (List ℕ)) (listed : List ℕ) → IsStrictlyIncreasing listed →
    ((k : ℕ) → k < length listed → slice_index listed k < length after) →
    ((i : ℕ) → i < length after → pointwise nat_eq (record_at before i) (record_at after i) ≡ false → Contains listed i) →
    changes_at before after listed ≡ changes_between before after
