-- Hints that are moved by the blocks of a file of changes.
use Rattle.std.specs.Prelude.{◌≡◌, ℕ, ◌+◌, ◌%◌, List, [], ◌∷◌}
use Rattle.matrix_u32.specs.Matrix.{WordMatrix}
use Rattle.digit_pack.specs.Layout.{IsLayout}
use Rattle.hint_changes.specs.Changes.{ChangedRecord, moved, rows_in_place}
use Rattle.hint_changes.specs.Entries.{AreEntries, changes_in}
use Rattle.pir_schemes.specs.declared.plan.Plan.{Plan}
use Rattle.pir_schemes.specs.Plans.{shape_at, first_public}
use Rattle.client_core.specs.declared.state.Hint.{Hint}
use Rattle.change_file.specs.Files.{HintMove, last_version}
use Rattle.kept_changes.specs.declared.moving.EntryChange.{EntryChange}

-- a change that is lent
abbrev pub changed_record : EntryChange → ChangedRecord
changed_record c = record { index = c.index; old = c.old.now; new = c.new.now }

-- a move that a hint of this plan can be moved by: there is a layout of so many records, and its
-- entries are of these
pub record IsMoveOf (p : Plan) (m : HintMove) : Type 0 where
  pub layout : IsLayout (shape_at p m.count)
  pub entries : AreEntries (shape_at p m.count) m.entries

-- moves that a hint of this plan can be moved by
abbrev pub AreMovesOf : Plan → List HintMove → Type 0
AreMovesOf p [] = Unit {0}
AreMovesOf p (m ∷ ms) = IsMoveOf p m × AreMovesOf p ms

-- a hint after one move
abbrev pub hint_after_move : Plan → HintMove → WordMatrix → WordMatrix
hint_after_move p m hint = moved (shape_at p m.count) (first_public (shape_at p m.count) p.dimension p.seed) (changes_in p.record_len m.entries) hint

-- a hint after moves, one after another
abbrev pub moved_through : Plan → List HintMove → WordMatrix → WordMatrix
moved_through p [] hint = hint
moved_through p (m ∷ ms) hint = moved_through p ms (hint_after_move p m hint)

-- the rows of a hint in which record i has its digits; how many records there are has no part in it
abbrev pub record_rows : Plan → ℕ → WordMatrix → WordMatrix
record_rows p i hint = rows_in_place (shape_at p (i + 1)) (i % p.groups) hint

-- A hint after moves, of which only the rows of record i count: if they are those of a whole hint
-- before, they are those of that hint after its moves.
pub record IsMovedOn (p : Plan) (i : ℕ) (ms : List HintMove) (before after : Hint) : Type 0 where
  pub scheme : after.scheme ≡ before.scheme
  pub version : after.version ≡ last_version before.version ms
  pub rows : after.matrix.rows ≡ before.matrix.rows
  pub cols : after.matrix.cols ≡ before.matrix.cols
  pub moved : (whole : WordMatrix) → whole.rows ≡ before.matrix.rows → whole.cols ≡ before.matrix.cols →
      record_rows p i before.matrix ≡ record_rows p i whole → record_rows p i after.matrix ≡ record_rows p i (moved_through p ms whole)

-- a whole hint after moves
pub record IsMovedWhole (p : Plan) (ms : List HintMove) (before after : Hint) : Type 0 where
  pub scheme : after.scheme ≡ before.scheme
  pub version : after.version ≡ last_version before.version ms
  pub rows : after.matrix.rows ≡ before.matrix.rows
  pub cols : after.matrix.cols ≡ before.matrix.cols
  pub matrix : after.matrix ≡ moved_through p ms before.matrix
