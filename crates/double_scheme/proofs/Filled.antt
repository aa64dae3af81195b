-- A row of a matrix that is filled place by place.
use Rattle.std.proofs.Common.{◌≡◌, ◌≢◌, ℕ, ◌+◌, ◌<◌, ◌≤◌, arith, ap, ◌∙◌, refl, inl, inr}
use Rattle.std.proofs.lemmas.Bool.{cases_lt}
use Rattle.std.proofs.lemmas.List.{length-set}
use Rattle.matrix_u32.specs.Sum.{list_of}
use Rattle.matrix_u32.specs.Matrix.{WordMatrix, IsWhole, entry, row, with_entry}
use Rattle.matrix_u32.proofs.Products.{same-list_of}
use Rattle.matrix_u32.proofs.Changes.{entry_kept, entry_set}

-- row r has the right word in the places before place n, and the rows before it are as they were
pub record RowFilled (old : WordMatrix) (r n : ℕ) (f : ℕ → ℕ) (m : WordMatrix) : Type 0 where
  pub rows : m.rows ≡ old.rows
  pub cols : m.cols ≡ old.cols
  pub whole : IsWhole m
  pub written : (j : ℕ) → j < n → j < old.cols → entry m r j ≡ f j
  pub kept : (i j : ℕ) → i < r → j < old.cols → entry m i j ≡ entry old i j

pub none_filled : (old : WordMatrix) (r : ℕ) (f : ℕ → ℕ) → IsWhole old → RowFilled old r 0 f old
none_filled old r f whole = record {
  rows = refl;
  cols = refl;
  whole = whole;
  written = λ j lt q. absurd (omega arith);
  kept = λ i j lt q. refl;
}

pub one_filled : (old m : WordMatrix) (r n v : ℕ) (f : ℕ → ℕ) → r < old.rows → n < old.cols → v ≡ f n → RowFilled old r n f m →
    RowFilled old r (n + 1) f (with_entry m r n v)
one_filled old m r n v f below inside is h =
    let wide : n < m.cols = omega (arith, h.cols) in
    let high : r < m.rows = omega (arith, h.rows) in
    record {
      rows = h.rows;
      cols = h.cols;
      whole = length-set _ _ _ ∙ h.whole;
      written = λ j lt q.
          let here : j < m.cols = omega (arith, h.cols) in
          elim (cases_lt j n) [
            | inl lower ↦
                let apart : j ≢ n = omega arith in entry_kept m r n v r j wide here (λ x. apart x.1) ∙ h.written j lower q
            | inr ge ↦ let e : j ≡ n = omega arith in rw e (entry_set m r n v h.whole high wide ∙ is)
          ];
      kept = λ i j lt q.
          let here : j < m.cols = omega (arith, h.cols) in
          let apart : i ≢ r = omega arith in
          entry_kept m r n v i j wide here (λ x. apart x.0) ∙ h.kept i j lt q;
    }

-- a filled row, and a row that is kept
pub filled_row_is : (old a m : WordMatrix) (r n : ℕ) (f : ℕ → ℕ) → old.cols ≡ a.cols → old.cols ≡ n → ((j : ℕ) → j < a.cols → f j ≡ entry a r j)
    → RowFilled old r n f m → row m r ≡ row a r
filled_row_is old a m r n f wide all same h =
    ap (λ k. list_of k (λ j. entry m r j)) (h.cols ∙ wide)
    ∙ same-list_of a.cols (λ j. entry m r j) (λ j. entry a r j) (λ j q. h.written j (omega arith) (omega arith) ∙ same j q)

pub filled_row_list : (old m : WordMatrix) (r n k : ℕ) (f : ℕ → ℕ) → old.cols ≡ k → k ≤ n → RowFilled old r n f m → row m r ≡ list_of k f
filled_row_list old m r n k f wide all h =
    ap (λ k. list_of k (λ j. entry m r j)) (h.cols ∙ wide) ∙ same-list_of k (λ j. entry m r j) f (λ j q. h.written j (omega arith) (omega arith))

pub kept_row_is : (old m : WordMatrix) (r n i : ℕ) (f : ℕ → ℕ) → RowFilled old r n f m → i < r → row m i ≡ row old i
kept_row_is old m r n i f h lt =
    ap (λ k. list_of k (λ j. entry m i j)) h.cols ∙ same-list_of old.cols (λ j. entry m i j) (λ j. entry old i j) (λ j q. h.kept i j lt q)
