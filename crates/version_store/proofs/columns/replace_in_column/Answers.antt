use Rattle.std.proofs.Common.{arith, refl, ap, sym, ◌∙◌, ◌+◌, ◌<◌, subst, ◌≡◌, ℕ, List, length, Bool, ◌||◌, not}
use Rattle.std.proofs.Math.Dec.{eqb}
use Rattle.std.specs.Prelude.{slice_index, slice_set}
use Rattle.version_store.specs.Editions.{MarksChanges, is_marked}
use Rattle.version_store.proofs.Marks.{none_marked, one_marked, fresh_row}
use Rattle.matrix_u32.specs.Matrix.{WordMatrix, product}
use Rattle.digit_pack.specs.Columns.{WritesFirst}
use Rattle.digit_pack.proofs.ColumnLemmas.{none_written, one_written}
use Rattle.version_store.proofs.columns.replace_in_column.Goals as goal

pub loop-d-init : goal.loop-d-init
loop-d-init g c = record {
  written = none_written (g.S.DigitStore.digits c.args.digits.now) c.args.place.0 c.args.place.1 c.args.written.now c.rows.ensures.whole;
  made = c.requires.made;
  marks = none_marked (g.S.DigitStore.digits c.args.digits.now) c.args.marks.now;
}

pub get-old-requires-clause-row : goal.get-old-requires-clause-row
get-old-requires-clause-row g c = omega (arith, c.loop-d.invariant.written.rows, c.requires.rows)

pub get-old-requires-clause-col : goal.get-old-requires-clause-col
get-old-requires-clause-col g c = omega (arith, c.loop-d.invariant.written.cols, c.requires.col)

pub loop-d-preserved : goal.loop-d-preserved
loop-d-preserved g c =
    let old : WordMatrix = g.S.DigitStore.digits c.args.digits.now in
    let here : WordMatrix = g.S.DigitStore.digits c.loop-d.digits in
    let v : ℕ = slice_index c.args.written.now c.loop-d.d in
    let done : WordMatrix → Type 0 = λ m. WritesFirst old m c.args.place.0 c.args.place.1 (c.loop-d.d + 1) c.args.written.now in
    let below : c.args.place.0 + c.loop-d.d < here.rows = omega (arith, c.loop-d.invariant.written.rows, c.requires.rows) in
    let across : c.args.place.1 < here.cols = omega (arith, c.loop-d.invariant.written.cols, c.requires.col) in
    let long : here.rows ≡ length c.loop-d.marks = c.loop-d.invariant.written.rows ∙ sym c.requires.marks ∙ sym c.loop-d.invariant.marks.count in
    let marks : List Bool = slice_set c.loop-d.marks (c.args.place.0 + c.loop-d.d)
    (is_marked c.loop-d.marks (c.args.place.0 + c.loop-d.d) || not (eqb c.get-old.result v)) in
    let marked : WordMatrix → Type 0 = λ m. MarksChanges old m c.args.marks.now marks in
    record {
      written = subst done (sym c.set.ensures)
          (one_written old here c.args.place.0 c.args.place.1 c.loop-d.d v c.args.written.now c.loop-d.invariant.written
          (omega (arith, c.requires.rows)) c.requires.col refl);
      made = c.update_simple.ensures.follows here c.loop-d.invariant.written.whole (omega (arith, c.loop-d.invariant.written.cols, c.requires.inner))
          below across (sym c.get-old.ensures) c.loop-d.invariant.made
          ∙ ap (λ m. product m c.args.a1.now) (sym c.set.ensures);
      marks = subst marked (sym c.set.ensures)
          (one_marked old here c.args.marks.now c.loop-d.marks (c.args.place.0 + c.loop-d.d) c.args.place.1 v c.get-old.result c.loop-d.invariant.written.whole
          c.loop-d.invariant.written.rows c.loop-d.invariant.written.cols long below across c.get-old.ensures
          (fresh_row old here c.args.place.0 c.args.place.1 c.loop-d.d c.args.written.now c.loop-d.invariant.written (omega (arith, c.requires.rows)))
          c.loop-d.invariant.marks);
    }

pub returns-clause-digits : goal.returns-clause-digits
returns-clause-digits g c =
    let all : c.loop-d.d ≡ length c.args.written.now = omega arith in
    let done : ℕ → Type 0 = λ n. WritesFirst (g.S.DigitStore.digits c.args.digits.now)
    (g.S.DigitStore.digits c.loop-d.digits) c.args.place.0 c.args.place.1 n c.args.written.now in
    subst done all c.loop-d.invariant.written
