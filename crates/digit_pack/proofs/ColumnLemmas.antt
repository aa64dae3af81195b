-- A column that is written from its top down.
use Rattle.std.proofs.Common.{◌≡◌, ℕ, ◌+◌, ◌<◌, ◌≤◌, arith, ap, ◌∙◌, sym, refl, subst, inl, inr, List, length, get_or-set_same, get_or-set_other}
use Rattle.std.proofs.lemmas.Bool.{cases_eq}
use Rattle.std.proofs.lemmas.List.{length-set}
use Rattle.std.specs.Prelude.{slice_index, slice_set}
use Rattle.matrix_u32.specs.Matrix.{WordMatrix, IsWhole, entry, with_entry}
use Rattle.matrix_u32.proofs.Changes.{entry_kept, entry_set}
use Rattle.digit_pack.specs.Columns.{WritesFirst, WritesColumn}

pub none_written : (m : WordMatrix) (first col : ℕ) (words : List ℕ) → IsWhole m → WritesFirst m m first col 0 words
none_written m first col words whole = record {
  rows = refl;
  cols = refl;
  whole = whole;
  here = λ d h. absurd (omega arith);
  elsewhere = λ r j _ _ _. refl;
}

pub one_written : (old new : WordMatrix) (first col n v : ℕ) (words : List ℕ) → WritesFirst old new first col n words →
    first + n < old.rows → col < old.cols → v ≡ slice_index words n → WritesFirst old (with_entry new (first + n) col v) first col (n + 1) words
one_written old new first col n v words h p q e =
    let inside : col < new.cols = omega (arith, h.cols) in
    let below : first + n < new.rows = omega (arith, h.rows) in
    record {
      rows = h.rows;
      cols = h.cols;
      whole = length-set _ _ _ ∙ h.whole;
      here = λ d l. elim (cases_eq d n) [
        | inl same ↦
            ap (λ k. entry (with_entry new (first + n) col v) (first + k) col) same
            ∙ entry_set new (first + n) col v h.whole below inside ∙ e ∙ ap (slice_index words) (sym same)
        | inr apart ↦
            entry_kept new (first + n) col v (first + d) col inside inside (λ b. apart (omega (arith, b.0))) ∙ h.here d (omega (arith, apart))
      ];
      elsewhere = λ r j k l out.
          let col_in : j < new.cols = omega (arith, h.cols) in
          entry_kept new (first + n) col v r j inside col_in (λ b. out (b.1, omega (arith, b.0), omega (arith, b.0)))
          ∙ h.elsewhere r j k l (λ b. out (b.0, b.1, omega (arith, b.2)));
    }

-- the same write, with its parts under other names
pub written_as : (old old' new : WordMatrix) (first first' col col' : ℕ) (words words' : List ℕ) → old ≡ old' → first ≡ first' → col ≡ col' → words ≡ words' →
    WritesColumn old new first col words → WritesColumn old' new first' col' words'
written_as old old' new first first' col col' words words' eo ef ec ew w =
    let w1 : WritesColumn old' new first col words = subst (λ m. WritesColumn m new first col words) eo w in
    let w2 : WritesColumn old' new first' col words = subst (λ f. WritesColumn old' new f col words) ef w1 in
    let w3 : WritesColumn old' new first' col' words = subst (λ c. WritesColumn old' new first' c words) ec w2 in
    subst (λ (ws : List ℕ). WritesColumn old' new first' col' ws) ew w3

-- ---- digits that are swapped with others
-- `others` were `words`: the first n of them are in column col, from row first down, and have what
-- was there in their places
pub record SwapsFirst (old new : WordMatrix) (first col n : ℕ) (words others : List ℕ) : Type 0 where
  pub written : WritesFirst old new first col n words
  pub count : length others ≡ length words
  pub read : (b : ℕ) → b < n → slice_index others b ≡ entry old (first + b) col
  pub rest : (b : ℕ) → n ≤ b → slice_index others b ≡ slice_index words b

pub none_swapped : (m : WordMatrix) (first col : ℕ) (words : List ℕ) → IsWhole m → SwapsFirst m m first col 0 words words
none_swapped m first col words whole = record {
  written = none_written m first col words whole;
  count = refl;
  read = λ b l. absurd (omega (arith, l));
  rest = λ b l. refl;
}

pub one_swapped : (old new : WordMatrix) (first col n v : ℕ) (words others : List ℕ) → SwapsFirst old new first col n words others → n < length words →
    first + n < old.rows → col < old.cols → v ≡ entry new (first + n) col →
    SwapsFirst old (with_entry new (first + n) col (slice_index others n)) first col (n + 1) words (slice_set others n v)
one_swapped old new first col n v words others h l p q is =
    let inside : n < length others = omega (arith, l, h.count) in
    record {
      written = one_written old new first col n (slice_index others n) words h.written p q (h.rest n (omega arith));
      count = length-set _ _ _ ∙ h.count;
      read = λ b m. elim (cases_eq b n) [
        | inl same ↦
            ap (slice_index (slice_set others n v)) same ∙ get_or-set_same others n v 0 inside ∙ is
            ∙ h.written.elsewhere (first + n) col p q (λ b. absurd (omega (arith, b.2)))
            ∙ ap (λ b. entry old (first + b) col) (sym same)
        | inr apart ↦ get_or-set_other others n b v 0 apart ∙ h.read b (omega (arith, m, apart))
      ];
      rest = λ b m. get_or-set_other others n b v 0 (λ e. absurd (omega (arith, m, e))) ∙ h.rest b (omega (arith, m));
    }
