-- Rows of a record, and the whole hint.
use Rattle.std.proofs.Common.{◌≡◌, ℕ, ◌+◌, ◌*◌, ◌%◌, List, [], ◌∷◌, refl, sym, ap, ◌∙◌, arith}
use Rattle.std.specs.Prelude.{slice_index}
use Rattle.std.proofs.lemmas.Nat.{mod_below}
use Rattle.matrix_u32.specs.Sum.{list_of}
use Rattle.matrix_u32.specs.Matrix.{WordMatrix, entry, matrix_of}
use Rattle.matrix_u32.proofs.Products.{same-list_of}
use Rattle.matrix_u32.proofs.Changes.{same-matrix_of}
use Rattle.matrix_u32.proofs.Rows.{row_index}
use Rattle.digit_pack.specs.Layout.{Shape, digit_rows, digits_per_record}
use Rattle.digit_pack.proofs.RecordLemmas.{shape_of_layout}
use Rattle.hint_changes.specs.Entries.{changes_in}
use Rattle.hint_changes.proofs.NetChanges.{changes_lead}
use Rattle.pir_schemes.specs.declared.plan.Plan.{Plan}
use Rattle.pir_schemes.specs.Plans.{shape_at, first_public}
use Rattle.client_core.specs.declared.state.Hint.{Hint}
use Rattle.client_core.specs.States.{shape_known}
use Rattle.client_core.specs.Replies.{hint_with_entries}
use Rattle.change_file.specs.Files.{HintMove, last_version}
use Rattle.kept_changes.specs.Moves.{IsMoveOf, IsMovedWhole, hint_after_move, moved_through, record_rows}
use Rattle.kept_changes.specs.Laws.{MovedRowsAreOfTheWhole, MovedRowsAreTheHints, RowsMoveAlike, TrueMovesMakeTheHint, hint_through}
use Rattle.kept_changes.proofs.Alike.{moved_alike, same_words}
use Rattle.kept_changes.proofs.Steps.{no_move_of_whole}

-- ---- what rows depend on

-- one move
pub one_alike : (p : Plan) (i : ℕ) (m : HintMove) (one other : WordMatrix) → IsMoveOf p m → one.rows ≡ digit_rows (shape_at p (i + 1)) →
    other.rows ≡ one.rows → record_rows p i one ≡ record_rows p i other → record_rows p i (hint_after_move p m one) ≡ record_rows p i (hint_after_move p m other)
one_alike p i m one other is high tall same =
    moved_alike (shape_at p m.count) (first_public (shape_at p m.count) p.dimension p.seed) one other (changes_in p.record_len m.entries) (i % p.groups)
    high (tall ∙ high) (mod_below i p.groups (omega (arith, is.layout.groups.0))) same

pub all_alike : RowsMoveAlike
all_alike p i [] one other are high tall same = same
all_alike p i (m ∷ ms) one other are high tall same =
    all_alike p i ms (hint_after_move p m one) (hint_after_move p m other) are.1 high tall (one_alike p i m one other are.0 high tall same)

-- ---- rows of the whole hint

-- the hint that a client holds is moved as a whole
goes_through : (p : Plan) (ms : List HintMove) (whole : Hint) → IsMovedWhole p ms whole (hint_through p ms whole)
goes_through p [] whole = no_move_of_whole p whole
goes_through p (m ∷ ms) whole =
    let more = goes_through p ms (hint_with_entries p whole m.version m.count m.entries) in
    record { scheme = more.scheme; version = more.version; rows = more.rows; cols = more.cols; matrix = more.matrix }

pub rows_stay_the_hints : MovedRowsAreTheHints
rows_stay_the_hints k i ms whole before after has tall is =
    let p : Plan = k.plan in
    let n : ℕ = digits_per_record (shape_known k) in
    let g : ℕ = i % p.groups in
    let through : IsMovedWhole p ms whole (hint_through p ms whole) = goes_through p ms whole in
    let later : WordMatrix = (hint_through p ms whole).matrix in
    let same : record_rows p i before.matrix ≡ record_rows p i whole.matrix =
    same-matrix_of n before.matrix.cols (λ d j. entry before.matrix (g * n + d) j) (λ d j. entry whole.matrix (g * n + d) j) (λ d j low in_row.
    sym (row_index before.matrix (g * n + d) j in_row)
    ∙ ap (λ (x : List ℕ). slice_index x j) (has.each d low)
    ∙ row_index whole.matrix (g * n + d) j (omega (arith, in_row, has.cols)))
    ∙ ap (λ c. matrix_of n c (λ d j. entry whole.matrix (g * n + d) j)) has.cols in
    let moved : record_rows p i after.matrix ≡ record_rows p i later =
    is.moved whole.matrix (sym tall) (sym has.cols) same ∙ ap (record_rows p i) (sym through.matrix) in
    let cols : after.matrix.cols ≡ later.cols = ap (λ (m : WordMatrix). m.cols) moved in
    record {
      simple = through.scheme ∙ has.simple;
      scheme = is.scheme ∙ has.scheme;
      version = is.version ∙ ap (λ v. last_version v ms) has.version ∙ sym through.version;
      cols = cols;
      each = λ d low.
          same-list_of after.matrix.cols (λ j. entry after.matrix (g * n + d) j) (λ j. entry later (g * n + d) j)
          (λ j in_row. same_words (shape_at p (i + 1)) g after.matrix later moved d j low in_row)
          ∙ ap (λ c. list_of c (λ j. entry later (g * n + d) j)) cols;
    }

-- the same rows as beside it
pub rows_of_whole : MovedRowsAreOfTheWhole
rows_of_whole p i ms before rows whole is all = is.moved before.matrix refl refl refl ∙ ap (record_rows p i) (sym all.matrix)

-- ---- true changes

pub true_moves : TrueMovesMakeTheHint
true_moves p [] hint last are same = same
true_moves p (m ∷ ms) hint last are steps =
    let l : Shape = shape_at p m.count in
    let a1 : WordMatrix = first_public l p.dimension p.seed in
    let next : WordMatrix = steps.0 in
    let step : hint_after_move p m hint ≡ next =
    ap (hint_after_move p m) steps.1.was
    ∙ changes_lead l (changes_in p.record_len m.entries) steps.1.before steps.1.after a1 (shape_of_layout l are.0.layout) (omega arith) steps.1.lead
    ∙ sym steps.1.is in
    ap (moved_through p ms) step ∙ true_moves p ms next last are.1 steps.2
