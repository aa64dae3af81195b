use Rattle.std.proofs.Common.{◌≡◌, ℕ, ◌*◌, ◌<◌, arith, ap, ◌∙◌, sym, refl, below_more, length}
use Rattle.std.proofs.lemmas.List.{length-set}
use Rattle.std.specs.Prelude.{slice_index}
use Rattle.matrix_u32.specs.Matrix.{WordMatrix, entry, with_entry, IsWhole}
use Rattle.matrix_u32.proofs.Changes.{entry_kept, entry_set}
use Rattle.double_scheme.proofs.secrets.put_column.Goals as goal

pub set-requires-clause-row : goal.set-requires-clause-row
set-requires-clause-row c = omega (arith, c.loop-d-test.true, c.requires.rows, c.loop-d.invariant.rows)

pub set-requires-clause-col : goal.set-requires-clause-col
set-requires-clause-col c = omega (arith, c.requires.inside, c.loop-d.invariant.cols)

pub loop-d-init : goal.loop-d-init
loop-d-init c = record {
  rows = refl;
  cols = refl;
  whole = c.rows-rows.ensures.whole;
  here = λ i l. absurd (omega arith);
  others = λ i k p q d. refl;
}

pub loop-d-preserved : goal.loop-d-preserved
loop-d-preserved c =
    let before : WordMatrix = c.loop-d.out in
    let inside : c.args.r < before.cols = omega (arith, c.requires.inside, c.loop-d.invariant.cols) in
    let now : c.set.new.self ≡ with_entry before c.loop-d.d c.args.r (slice_index c.args.column.now c.loop-d.d) = c.set.ensures in
    let at : (i k : ℕ) → entry c.set.new.self i k ≡ entry (with_entry before c.loop-d.d c.args.r (slice_index c.args.column.now c.loop-d.d)) i k =
    λ i k. ap (λ (m : WordMatrix). entry m i k) now in
    record {
      rows = ap (λ (m : WordMatrix). m.rows) now ∙ c.loop-d.invariant.rows;
      cols = ap (λ (m : WordMatrix). m.cols) now ∙ c.loop-d.invariant.cols;
      whole = ap (λ (m : WordMatrix). length m.words) now ∙ length-set _ _ _ ∙ c.loop-d.invariant.whole ∙ sym (ap (λ (m : WordMatrix). m.rows * m.cols) now);
      here = below_more _ _
          (λ i l. at i c.args.r ∙ entry_kept before c.loop-d.d c.args.r _ i c.args.r inside inside (λ e. absurd (omega (arith, e.0, l))) ∙ c.loop-d.invariant.here i l)
          (at c.loop-d.d c.args.r ∙ entry_set before c.loop-d.d c.args.r _ c.loop-d.invariant.whole
          (omega (arith, c.loop-d-test.true, c.requires.rows, c.loop-d.invariant.rows)) inside);
      others = λ i k p q d. at i k ∙ entry_kept before c.loop-d.d c.args.r _ i k inside (omega (arith, q, c.loop-d.invariant.cols)) (λ e. d e.1)
          ∙ c.loop-d.invariant.others i k p q d;
    }
