-- Hints that are moved by the records that changed.
use Rattle.std.specs.Prelude.{⊤, All, Bool, true, false, nat_eq, cond, ◌≡◌, ◌≢◌, ◌⊎◌, ℕ, ◌+◌, ◌-◌, ◌*◌, ◌%◌, ◌/◌, ◌^◌, ◌<◌, ◌≤◌, ◌==◌, if◌then◌else◌, List, [], ◌∷◌, length, slice_index, slice_set}
use Rattle.std.specs.Cmp.Lexicographic.{pointwise}
use Rattle.std.specs.List.{range_with_len}
use Rattle.matrix_u32.specs.Matrix.{WordMatrix, IsWhole, entry, matrix_of}
use Rattle.lane_kernels.specs.Digit.{digit}
use Rattle.digit_pack.specs.Digits.{number_of}
use Rattle.digit_pack.specs.Layout.{Shape, column_of, digits_per_record, record_at}

-- a record that changed: its number, and the bytes that it had and has in the digits
pub record ChangedRecord : Type 0 where
  pub index : ℕ
  pub old : List ℕ
  pub new : List ℕ

-- digit d of a record
abbrev pub record_digit : Shape → List ℕ → ℕ → ℕ
record_digit l bytes d = digit l.width (number_of 8 bytes) d

-- a number that is the change of digit d modulo 2 ^ 32
abbrev pub digit_difference : Shape → ChangedRecord → ℕ → ℕ
digit_difference l c d = record_digit l c.new d + (2 ^ 32 - record_digit l c.old d)

-- word k of row r of a hint after a record changed: if the record has a digit in this row, its
-- change is added, times word k of the public matrix's row of the record's column
abbrev pub word_after_change : Shape → WordMatrix → ℕ → ℕ → ChangedRecord → ℕ → ℕ
word_after_change l a1 r k c x =
    if r / digits_per_record l == c.index % l.groups
    then (x + digit_difference l c (r % digits_per_record l) * entry a1 (column_of l c.index) k) % 2 ^ 32 else x

-- word k of row r of a hint after several changes, one after another
abbrev pub word_after : Shape → WordMatrix → ℕ → ℕ → List ChangedRecord → ℕ → ℕ
word_after l a1 r k [] x = x
word_after l a1 r k (c ∷ more) x = word_after l a1 r k more (word_after_change l a1 r k c x)

-- a hint after changes
abbrev pub moved : Shape → WordMatrix → List ChangedRecord → WordMatrix → WordMatrix
moved l a1 changes hint = matrix_of hint.rows hint.cols (λ r k. word_after l a1 r k changes (entry hint r k))

-- word k of row first + d of a hint, moved by the change of digit d, times word k of one row of a
-- public matrix
abbrev pub moved_by : WordMatrix → WordMatrix → ℕ → ℕ → ℕ → List ℕ → List ℕ → ℕ
moved_by hint public first d k old new =
    (entry hint (first + d) k + (slice_index new d + (2 ^ 32 - slice_index old d)) * entry public 0 k) % 2 ^ 32

-- so many rows of a hint, from one on, were moved by digits that changed, and the others are as
-- before
pub record HaveMoved (before now public : WordMatrix) (first count : ℕ) (old new : List ℕ) : Type 0 where
  pub rows : now.rows ≡ before.rows
  pub cols : now.cols ≡ before.cols
  pub whole : IsWhole now
  pub moved : (d k : ℕ) → d < count → k < before.cols → entry now (first + d) k ≡ moved_by before public first d k old new
  pub kept : (r k : ℕ) → r < before.rows → k < before.cols → (r < first) ⊎ (first + count ≤ r) → entry now r k ≡ entry before r k

-- the rows of a hint in which the records in place g of their columns have their digits
abbrev pub rows_in_place : Shape → ℕ → WordMatrix → WordMatrix
rows_in_place l g hint = matrix_of (digits_per_record l) hint.cols (λ d k. entry hint (g * digits_per_record l + d) k)

-- records after changes
abbrev pub records_after : List ChangedRecord → List (List ℕ) → List (List ℕ)
records_after [] records = records
records_after (c ∷ more) records = records_after more (slice_set records c.index c.new)

-- each change is of a record that there is, and that has the old bytes when its turn comes
abbrev pub AreChangesOf : Shape → List ChangedRecord → List (List ℕ) → Type 0
AreChangesOf l [] records = ⊤
AreChangesOf l (c ∷ more) records =
    (c.index < l.count) × (c.index < length records) × (record_at records c.index ≡ c.old) × AreChangesOf l more (slice_set records c.index c.new)

-- a change that leads from one list of records to another: its record has the old bytes in the one,
-- and the new ones in the other
pub record IsChangeBetween (l : Shape) (before after : List (List ℕ)) (c : ChangedRecord) : Type 0 where
  pub inside : c.index < l.count
  pub there : c.index < length before
  pub old : record_at before c.index ≡ c.old
  pub new : record_at after c.index ≡ c.new

-- no record is named twice
abbrev pub NameOnce : List ChangedRecord → Type 0
NameOnce [] = ⊤
NameOnce (c ∷ more) = All (λ d. c.index ≢ d.index) more × NameOnce more

-- changes that lead from one list of records to another, in any order: each record that differs is
-- named, and none twice
pub record LeadTo (l : Shape) (changes : List ChangedRecord) (before after : List (List ℕ)) : Type 0 where
  pub each : All (IsChangeBetween l before after) changes
  pub once : NameOnce changes
  pub others : (i : ℕ) → All (λ c. c.index ≢ i) changes → record_at after i ≡ record_at before i

-- a change, and those after it; it is left out if it is none
abbrev pub unless_same : Bool → ChangedRecord → List ChangedRecord → List ChangedRecord
unless_same same c more = cond same more (c ∷ more)

-- the change of record i from one list of records to another
abbrev pub change_of : List (List ℕ) → List (List ℕ) → ℕ → ChangedRecord
change_of before after i = record { index = i; old = record_at before i; new = record_at after i }

-- the changes of the records in a list, in its order: a record with the same bytes before and after
-- is left out
abbrev pub changes_at : List (List ℕ) → List (List ℕ) → List ℕ → List ChangedRecord
changes_at before after [] = []
changes_at before after (i ∷ more) =
    cond (pointwise nat_eq (record_at before i) (record_at after i)) (changes_at before after more) (change_of before after i ∷ changes_at before after more)

-- the changes from one list of records to another of equal length: of each record that differs,
-- ascending
abbrev pub changes_between : List (List ℕ) → List (List ℕ) → List ChangedRecord
changes_between before after = changes_at before after (range_with_len 0 (length after))

-- a row of the first public matrix: of which seed, of which column of digits, and of how many words
pub record RowOfPublic : Type 0 where
  pub seed : List ℕ
  pub column : ℕ
  pub dimension : ℕ
