-- Hints of DoublePIR that follow rows of digits, one after the other.
use Rattle.std.proofs.Common.{◌≡◌, ℕ, ◌*◌, ◌<◌, ◌≤◌, if◌then◌else◌, arith, ap, ◌∙◌, sym, refl, subst, List, length, Bool, inl, inr}
use Rattle.std.specs.Prelude.{slice_index, nat_lt}
use Rattle.std.proofs.lemmas.Bool.{cases_lt}
use Rattle.std.proofs.lemmas.Bool.Decides.{nat_tests}
use Rattle.matrix_u32.specs.Sum.{list_of}
use Rattle.matrix_u32.specs.Matrix.{WordMatrix, IsWhole, entry, matrix_of, row, product, vector_times}
use Rattle.matrix_u32.proofs.Changes.{matrix_by_entries}
use Rattle.matrix_u32.proofs.Products.{entry-matrix_of, same-list_of, row-product}
use Rattle.matrix_u32.proofs.Rows.{row_index}
use Rattle.lane_kernels.specs.Digit.{split_count}
use Rattle.hint_update.specs.Updates.{AreHintsOf, FollowsListed, IsListedChange, TakesRows, moved_by_rows}
use Rattle.version_store.specs.Editions.{IsRowChange}
use Rattle.version_store.proofs.ListedRows.{ListsMarked}

-- the new matrix in the rows before row r, the old one in the others
unfoldable pub mixed : ℕ → WordMatrix → WordMatrix → WordMatrix
mixed r old new = matrix_of old.rows old.cols (λ i j. if nat_lt i r then entry new i j else entry old i j)

before : (i r u v : ℕ) → i < r → (if nat_lt i r then u else v) ≡ u
before i r u v l = grind (arith, nat_tests)

past : (i r u v : ℕ) → r ≤ i → (if nat_lt i r then u else v) ≡ v
past i r u v l = grind (arith, nat_tests)

mixed_cols : (r : ℕ) (old new : WordMatrix) → (mixed r old new).cols ≡ old.cols
unfolding mixed
mixed_cols r old new = refl

pub mixed_begin : (old new : WordMatrix) → IsWhole old → mixed 0 old new ≡ old
unfolding mixed
mixed_begin old new whole =
    sym (matrix_by_entries old old.rows old.cols (λ i j. if nat_lt i 0 then entry new i j else entry old i j) refl refl whole
    (λ i j p q. sym (past i 0 (entry new i j) (entry old i j) (omega arith))))

pub mixed_end : (r : ℕ) (old new : WordMatrix) → IsWhole new → old.rows ≡ new.rows → old.cols ≡ new.cols → new.rows ≤ r → mixed r old new ≡ new
unfolding mixed
mixed_end r old new whole rows cols all =
    sym (matrix_by_entries new old.rows old.cols (λ i j. if nat_lt i r then entry new i j else entry old i j) (sym rows) (sym cols) whole
    (λ i j p q. sym (before i r (entry new i j) (entry old i j) (omega (arith, rows)))))

-- its words
mixed_before : (r i j : ℕ) (old new : WordMatrix) → i < r → i < old.rows → j < old.cols → entry (mixed r old new) i j ≡ entry new i j
unfolding mixed
mixed_before r i j old new l p q =
    entry-matrix_of old.rows old.cols (λ i j. if nat_lt i r then entry new i j else entry old i j) i j p q
    ∙ before i r (entry new i j) (entry old i j) l

mixed_past : (r i j : ℕ) (old new : WordMatrix) → r ≤ i → i < old.rows → j < old.cols → entry (mixed r old new) i j ≡ entry old i j
unfolding mixed
mixed_past r i j old new l p q =
    entry-matrix_of old.rows old.cols (λ i j. if nat_lt i r then entry new i j else entry old i j) i j p q
    ∙ past i r (entry new i j) (entry old i j) l

-- its rows, that have the same words as those of another
mixed_same : (r s i : ℕ) (old new : WordMatrix) → ((j : ℕ) → j < old.cols → entry (mixed r old new) i j ≡ entry (mixed s old new) i j) →
    row (mixed r old new) i ≡ row (mixed s old new) i
unfolding mixed
mixed_same r s i old new each = same-list_of old.cols (λ j. entry (mixed r old new) i j) (λ j. entry (mixed s old new) i j) each

-- a row of its product, which is that of the new matrix
mixed_row : (r i : ℕ) (old new a : WordMatrix) → old.rows ≡ new.rows → old.cols ≡ new.cols → i < r → i < new.rows →
    row (product (mixed r old new) a) i ≡ row (product new a) i
unfolding mixed
mixed_row r i old new a rows cols l p =
    let m : WordMatrix = mixed r old new in
    let same : row m i ≡ row new i =
    same-list_of old.cols (λ j. entry m i j) (λ j. entry new i j) (λ j q. mixed_before r i j old new l (omega (arith, rows)) q)
    ∙ ap (λ n. list_of n (λ j. entry new i j)) cols in
    row-product m a i (omega (arith, rows)) ∙ ap (λ x. vector_times x a) same ∙ sym (row-product new a i p)

-- the marked rows of a part that are replaced by the new ones
mixed_listed : (r r' : ℕ) (hint a1 old new : WordMatrix) (marks : List Bool) (listed : List ℕ) → IsRowChange hint a1 old new marks → r' ≤ new.rows →
    ListsMarked marks r r' listed → IsListedChange hint a1 (mixed r old new) (mixed r' old new) listed
unfolding mixed
mixed_listed r r' hint a1 old new marks listed h fits l = record {
  rows = refl;
  cols = refl;
  inner = omega (arith, h.cols, h.inner);
  changed = λ k p.
      let i : ℕ = slice_index listed k in
      let part : (r ≤ i) × (i < r') = l.inside k p in
      ap (λ m. row m i) h.hint_is ∙ sym (mixed_row r' i old new a1 h.rows h.cols part.1 (omega (arith, part.1, fits)));
  others = λ i p out. mixed_same r' r i old new (λ j q.
      elim (cases_lt i r) [
        | inl low ↦
            let before : i < r' = omega (arith, low, l.ordered) in
            mixed_before r' i j old new before p q ∙ sym (mixed_before r i j old new low p q)
        | inr at ↦ elim (cases_lt i r') [
          | inl high ↦
              let same : row new i ≡ row old i = h.kept i (omega (arith, p, h.rows)) (l.unmarked i at high out) in
              let word : entry new i j ≡ entry old i j =
              sym (row_index new i j (omega (arith, q, h.cols))) ∙ ap (λ (x : List ℕ). slice_index x j) same ∙ row_index old i j q in
              mixed_before r' i j old new high p q ∙ word ∙ sym (mixed_past r i j old new at p q)
          | inr later ↦ mixed_past r' i j old new later p q ∙ sym (mixed_past r i j old new at p q)
        ]
      ]);
}

-- both hints follow the rows before row r, and keep their sizes
pub record FollowsTo (r w : ℕ) (hint a2 s0 s c0 c : WordMatrix) (marks : List Bool) : Type 0 where
  pub server_rows : s.rows ≡ hint.cols * split_count w
  pub server_cols : s.cols ≡ hint.rows
  pub client_rows : c.rows ≡ hint.cols * split_count w
  pub client_cols : c.cols ≡ hint.cols
  pub follows : (old new a1 : WordMatrix) → IsRowChange hint a1 old new marks → AreHintsOf w old a1 a2 s0 c0 → AreHintsOf w (mixed r old new) a1 a2 s c

pub none_followed : (w : ℕ) (hint a2 s c : WordMatrix) (marks : List Bool) →
    s.rows ≡ hint.cols * split_count w → s.cols ≡ hint.rows → c.rows ≡ hint.cols * split_count w → c.cols ≡ hint.cols → FollowsTo 0 w hint a2 s s c c marks
none_followed w hint a2 s c marks sr sc cr cc = record {
  server_rows = sr;
  server_cols = sc;
  client_rows = cr;
  client_cols = cc;
  follows = λ old new a1 h made. subst (λ m. AreHintsOf w m a1 a2 s c) (sym (mixed_begin old new h.old_whole)) made;
}

-- the marked rows of a part
pub part_followed : (r r' w : ℕ) (hint a2 s0 s s' c0 c c' : WordMatrix) (marks : List Bool) (listed : List ℕ) → r' ≤ length marks →
    ListsMarked marks r r' listed → TakesRows w hint s s' listed → c' ≡ moved_by_rows c s s' a2 listed → FollowsListed w hint a2 s s' c c' listed →
    FollowsTo r w hint a2 s0 s c0 c marks → FollowsTo r' w hint a2 s0 s' c0 c' marks
part_followed r r' w hint a2 s0 s s' c0 c c' marks listed l lists takes moved follows f = record {
  server_rows = takes.rows ∙ f.server_rows;
  server_cols = takes.cols ∙ f.server_cols;
  client_rows = ap (λ (m : WordMatrix). m.rows) moved ∙ f.client_rows;
  client_cols = ap (λ (m : WordMatrix). m.cols) moved ∙ f.client_cols;
  follows = λ old new a1 h made.
      follows (mixed r old new) (mixed r' old new) a1 (mixed_listed r r' hint a1 old new marks listed h (omega (arith, l, h.count)) lists)
      (f.follows old new a1 h made);
}

-- all rows
pub all_followed : (r w : ℕ) (hint a2 s0 s c0 c : WordMatrix) (marks : List Bool) → length marks ≤ r → FollowsTo r w hint a2 s0 s c0 c marks →
    (old new a1 : WordMatrix) → IsRowChange hint a1 old new marks → AreHintsOf w old a1 a2 s0 c0 → AreHintsOf w new a1 a2 s c
all_followed r w hint a2 s0 s c0 c marks all f old new a1 h made =
    subst (λ m. AreHintsOf w m a1 a2 s c) (mixed_end r old new h.new_whole h.rows h.cols (omega (arith, all, h.count))) (f.follows old new a1 h made)
