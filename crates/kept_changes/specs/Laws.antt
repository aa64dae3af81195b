-- Laws of rows that are moved by a file of changes.
use Rattle.std.specs.Prelude.{◌≡◌, ℕ, ◌+◌, List, [], ◌∷◌}
use Rattle.matrix_u32.specs.Matrix.{WordMatrix}
use Rattle.digit_pack.specs.Layout.{digit_rows}
use Rattle.hint_changes.specs.Changes.{LeadTo}
use Rattle.hint_changes.specs.Entries.{changes_in}
use Rattle.pir_schemes.specs.declared.plan.Plan.{Plan}
use Rattle.pir_schemes.specs.Plans.{shape_at}
use Rattle.client_core.specs.declared.state.ServerInfo.{ServerInfo}
use Rattle.client_core.specs.declared.state.Hint.{Hint}
use Rattle.client_core.specs.Laws.{hint_of_slots}
use Rattle.client_core.specs.Replies.{hint_with_entries}
use Rattle.client_core.specs.Resuming.{HasRowsOf}
use Rattle.change_file.specs.Files.{HintMove}
use Rattle.kept_changes.specs.Moves.{AreMovesOf, IsMovedOn, IsMovedWhole, moved_through, record_rows}

-- what the rows of a record are after moves depends on those rows before alone
abbrev pub RowsMoveAlike : Type 0
RowsMoveAlike = (p : Plan) (i : ℕ) (ms : List HintMove) (one other : WordMatrix) → AreMovesOf p ms →
    one.rows ≡ digit_rows (shape_at p (i + 1)) → other.rows ≡ one.rows → record_rows p i one ≡ record_rows p i other →
    record_rows p i (moved_through p ms one) ≡ record_rows p i (moved_through p ms other)

-- a whole hint that a client holds, after it took the changes of moves, one after another
abbrev pub hint_through : Plan → List HintMove → Hint → Hint
hint_through p [] whole = whole
hint_through p (m ∷ ms) whole = hint_through p ms (hint_with_entries p whole m.version m.count m.entries)

-- a hint that had the rows of a record in a whole hint has them in that hint after its moves, if it
-- was moved on
abbrev pub MovedRowsAreTheHints : Type 0
MovedRowsAreTheHints = (k : ServerInfo) (i : ℕ) (ms : List HintMove) (whole before after : Hint) → HasRowsOf k whole i before →
    before.matrix.rows ≡ whole.matrix.rows → IsMovedOn k.plan i ms before after → HasRowsOf k (hint_through k.plan ms whole) i after

-- rows of a record that were moved on are those of the hint that was moved as a whole
abbrev pub MovedRowsAreOfTheWhole : Type 0
MovedRowsAreOfTheWhole = (p : Plan) (i : ℕ) (ms : List HintMove) (before rows whole : Hint) → IsMovedOn p i ms before rows →
    IsMovedWhole p ms before whole → record_rows p i rows.matrix ≡ record_rows p i whole.matrix

-- a move from one hint to another, each of which is made from scratch of records, by entries that
-- lead from those to these; blanks represent records that were appended
pub record IsTrueMove (p : Plan) (m : HintMove) (hint next : WordMatrix) : Type 0 where
  pub before : List (List ℕ)
  pub after : List (List ℕ)
  pub was : hint ≡ hint_of_slots p m.count before
  pub lead : LeadTo (shape_at p m.count) (changes_in p.record_len m.entries) before after
  pub is : next ≡ hint_of_slots p m.count after

-- such moves one after another
abbrev pub AreTrueMoves : Plan → List HintMove → WordMatrix → WordMatrix → Type 0
AreTrueMoves p [] hint last = hint ≡ last
AreTrueMoves p (m ∷ ms) hint last = (next : WordMatrix) × IsTrueMove p m hint next × AreTrueMoves p ms next last

-- true moves make of the first hint the last one
abbrev pub TrueMovesMakeTheHint : Type 0
TrueMovesMakeTheHint = (p : Plan) (ms : List HintMove) (hint last : WordMatrix) → AreMovesOf p ms → AreTrueMoves p ms hint last →
    moved_through p ms hint ≡ last
