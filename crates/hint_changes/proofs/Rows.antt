-- Rows of a hint that are moved one after another.
use Rattle.std.proofs.Common.{◌≡◌, ◌≢◌, ℕ, ◌+◌, ◌-◌, ◌*◌, ◌%◌, ◌^◌, ◌<◌, arith, ap, ◌∙◌, sym, refl, subst, inl, inr, List}
use Rattle.std.proofs.lemmas.Bool.{cases_eq}
use Rattle.std.specs.Prelude.{slice_index}
use Rattle.matrix_u32.specs.Matrix.{WordMatrix, IsWhole, entry, row, with_row}
use Rattle.matrix_u32.proofs.Products.{length-list_of}
use Rattle.matrix_u32.proofs.Rows.{with_row-other}
use Rattle.hint_changes.specs.Changes.{HaveMoved, moved_by}

pub none_moved : (hint public : WordMatrix) (first : ℕ) (old new : List ℕ) → IsWhole hint → HaveMoved hint hint public first 0 old new
none_moved hint public first old new whole = record {
  rows = refl;
  cols = refl;
  whole = whole;
  moved = λ d k h _. absurd (omega arith);
  kept = λ r k _ _ _. refl;
}

pub one_moved : (before now after public : WordMatrix) (first d : ℕ) (old new : List ℕ) → HaveMoved before now public first d old new →
    first + d < before.rows → after ≡ with_row now (first + d) (row after (first + d)) →
    ((k : ℕ) → k < before.cols → entry after (first + d) k ≡ moved_by now public first d k old new) → HaveMoved before after public first (d + 1) old new
one_moved before now after public first d old new done inside is here =
    let rows : after.rows ≡ now.rows = ap (λ (m : WordMatrix). m.rows) is in
    let cols : after.cols ≡ now.cols = ap (λ (m : WordMatrix). m.cols) is in
    let elsewhere : (r k : ℕ) → r < before.rows → k < before.cols → r ≢ first + d → entry after r k ≡ entry now r k = λ r k p q apart.
    ap (λ (m : WordMatrix). entry m r k) is
    ∙ with_row-other now (first + d) r k (row after (first + d)) (omega (arith, p, done.rows)) apart (omega (arith, q, done.cols)) in
    record {
      rows = rows ∙ done.rows;
      cols = cols ∙ done.cols;
      whole = subst IsWhole (sym is) (length-list_of (now.rows * now.cols) _);
      moved = λ e k p q. elim (cases_eq e d) [
        | inl same ↦
            ap (λ y. entry after (first + y) k) same ∙ here k q
            ∙ ap (λ y. (y + (slice_index new d + (2 ^ 32 - slice_index old d)) * entry public 0 k) % 2 ^ 32)
            (done.kept (first + d) k inside q (inr (omega arith)))
            ∙ ap (λ y. moved_by before public first y k old new) (sym same)
        | inr apart ↦ elsewhere (first + e) k (omega (arith, inside, p, apart)) q (λ same. apart (omega (arith, same))) ∙ done.moved e k (omega (arith, p, apart)) q
      ];
      kept = λ r k p q outside. elim outside [
        | inl below ↦ elsewhere r k p q (λ same. absurd (omega (arith, same, below))) ∙ done.kept r k p q (inl below)
        | inr above ↦ elsewhere r k p q (λ same. absurd (omega (arith, same, above))) ∙ done.kept r k p q (inr (omega (arith, above)))
      ];
    }
