-- Rows that are marked as their digits change.
use Rattle.std.proofs.Common.{◌≡◌, ℕ, ◌+◌, ◌*◌, ◌<◌, ◌||◌, not, arith, ap, ◌∙◌, sym, refl, ⊎_elim, List, length, Bool, true, false, get_or-set_same, get_or-set_other}
use Rattle.std.proofs.Math.Dec.{eqb}
use Rattle.std.proofs.lemmas.Bool.{cases_eq, not-false, eqb-true, eq-eqb}
use Rattle.std.proofs.lemmas.List.{length-set, set-get_or}
use Rattle.std.specs.Prelude.{slice_set, slice_index}
use Rattle.matrix_u32.specs.Matrix.{WordMatrix, IsWhole, entry, row, with_entry}
use Rattle.matrix_u32.proofs.Changes.{entry_kept, entry_set}
use Rattle.matrix_u32.proofs.Products.{same-list_of}
use Rattle.matrix_u32.proofs.Rows.{row_index}
use Rattle.matrix_u32.specs.Sum.{list_of}
use Rattle.digit_pack.specs.Columns.{WritesFirst}
use Rattle.version_store.specs.Editions.{MarksChanges, is_marked}

either_false : (a b : Bool) → (a || b) ≡ false → (a ≡ false) × (b ≡ false)
either_false false b e = (refl, e)
either_false true b e = let no : true ≡ false = e in absurd cc

-- a word that is written again
unchanged : (d : WordMatrix) (i j v : ℕ) → entry d i j ≡ v → with_entry d i j v ≡ d
unchanged d i j v e =
    let words : slice_set d.words (i * d.cols + j) v ≡ d.words = ap (slice_set d.words (i * d.cols + j)) (sym e) ∙ set-get_or d.words (i * d.cols + j) 0 in
    λ t. record { rows = d.rows; cols = d.cols; words = words t }

pub none_marked : (m : WordMatrix) (marks : List Bool) → MarksChanges m m marks marks
none_marked m marks = record { count = refl; kept = λ r p e. (e, refl); only = λ r p e _. e }

-- two changes, of which the second puts no row back as it was
pub more_marked : (a b c : WordMatrix) (f g h : List Bool) → b.rows ≡ a.rows →
    ((r : ℕ) → r < a.rows → row c r ≡ row a r → row b r ≡ row a r) → MarksChanges a b f g → MarksChanges b c g h → MarksChanges a c f h
more_marked a b c f g h same settled first second = record {
  count = second.count ∙ first.count;
  kept = λ r p e.
      let later : (is_marked g r ≡ false) × (row c r ≡ row b r) = second.kept r (omega (arith, same)) e in
      let before : (is_marked f r ≡ false) × (row b r ≡ row a r) = first.kept r p later.0 in
      (before.0, later.1 ∙ before.1);
  only = λ r p unmarked e.
      let between : row b r ≡ row a r = settled r p e in
      second.only r (omega (arith, same)) (first.only r p unmarked between) (e ∙ sym between);
}

-- a row below those that are written so far
pub fresh_row : (old new : WordMatrix) (first col n : ℕ) (words : List ℕ) → WritesFirst old new first col n words → first + n < old.rows →
    row new (first + n) ≡ row old (first + n)
fresh_row old new first col n words h below =
    same-list_of new.cols (λ j. entry new (first + n) j) (λ j. entry old (first + n) j)
    (λ j l. h.elsewhere (first + n) j below (omega (arith, h.cols)) (λ x. absurd (omega (arith, x.2))))
    ∙ ap (λ c. list_of c (λ j. entry old (first + n) j)) h.cols

-- one digit that is written in a row that was not changed before, with a mark if it changes
pub one_marked : (d0 d : WordMatrix) (f0 f : List Bool) (i j v old : ℕ) → IsWhole d → d.rows ≡ d0.rows → d.cols ≡ d0.cols → d.rows ≡ length f →
    i < d.rows → j < d.cols → old ≡ entry d i j → row d i ≡ row d0 i →
    MarksChanges d0 d f0 f → MarksChanges d0 (with_entry d i j v) f0 (slice_set f i (is_marked f i || not (eqb old v)))
one_marked d0 d f0 f i j v old whole rows cols many p q was fresh h =
    let new : Bool = is_marked f i || not (eqb old v) in
    record {
      count = length-set f i new ∙ h.count;
      kept = λ r below unmarked.
          ⊎_elim
          (λ e.
          let here : new ≡ false = sym (get_or-set_same f i new false (omega (arith, many))) ∙ ap (is_marked (slice_set f i new)) (sym e) ∙ unmarked in
          let both : (is_marked f i ≡ false) × (not (eqb old v) ≡ false) = either_false (is_marked f i) (not (eqb old v)) here in
          let same : entry d i j ≡ v = sym was ∙ eqb-true old v (not-false (eqb old v) both.1) in
          let before : (is_marked f0 r ≡ false) × (row d r ≡ row d0 r) = h.kept r below (ap (is_marked f) e ∙ both.0) in
          (before.0, ap (λ m. row m r) (unchanged d i j v same) ∙ before.1))
          (λ apart.
          let before : (is_marked f0 r ≡ false) × (row d r ≡ row d0 r) =
          h.kept r below (sym (get_or-set_other f i r new false apart) ∙ unmarked) in (
            before.0,
            same-list_of d.cols (λ c. entry (with_entry d i j v) r c) (λ c. entry d r c) (λ c l. entry_kept d i j v r c q l (λ x. apart x.0))
                ∙ before.1,
          ))
          (cases_eq r i);
      only = λ r below unmarked e.
          ⊎_elim
          (λ here.
          let digit : v ≡ old =
          sym (entry_set d i j v whole p q) ∙ sym (row_index (with_entry d i j v) i j q)
          ∙ ap (λ (x : List ℕ). slice_index x j) (ap (row (with_entry d i j v)) (sym here) ∙ e ∙ ap (row d0) here ∙ sym fresh)
          ∙ row_index d i j q ∙ sym was in
          let mark : is_marked f i ≡ false = h.only i (omega (arith, rows)) (ap (is_marked f0) (sym here) ∙ unmarked) fresh in
          ap (is_marked (slice_set f i new)) here ∙ get_or-set_same f i new false (omega (arith, many))
          ∙ ap (λ b. b || not (eqb old v)) mark ∙ ap not (eq-eqb old v (sym digit)))
          (λ apart.
          let same : row (with_entry d i j v) r ≡ row d r =
          same-list_of d.cols (λ c. entry (with_entry d i j v) r c) (λ c. entry d r c) (λ c l. entry_kept d i j v r c q l (λ x. apart x.0)) in
          get_or-set_other f i r new false apart ∙ h.only r below unmarked (sym same ∙ e))
          (cases_eq r i);
    }
