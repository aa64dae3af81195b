use Rattle.std.proofs.Common.{arith, refl, sym, ◌+◌, subst, ◌≡◌, ℕ, length}
use Rattle.std.specs.Prelude.{slice_index}
use Rattle.matrix_u32.specs.Matrix.{WordMatrix}
use Rattle.digit_pack.specs.Columns.{WritesFirst}
use Rattle.digit_pack.proofs.ColumnLemmas.{none_written, one_written}
use Rattle.digit_pack.proofs.filling.write_digits.Goals as goal

pub loop-d-init : goal.loop-d-init
loop-d-init g c = none_written (g.S.DigitStore.digits c.args.digits.now) c.args.first c.args.col c.args.written.now c.rows.ensures.whole

pub set-requires-clause-row : goal.set-requires-clause-row
set-requires-clause-row g c = omega (arith, c.loop-d.invariant.rows, c.requires.rows)

pub set-requires-clause-col : goal.set-requires-clause-col
set-requires-clause-col g c = omega (arith, c.loop-d.invariant.cols, c.requires.col)

pub loop-d-preserved : goal.loop-d-preserved
loop-d-preserved g c =
    let old : WordMatrix = g.S.DigitStore.digits c.args.digits.now in
    subst (λ m. WritesFirst old m c.args.first c.args.col (c.loop-d.d + 1) c.args.written.now) (sym c.set.ensures)
    (one_written old (g.S.DigitStore.digits c.loop-d.digits) c.args.first c.args.col c.loop-d.d
    (slice_index c.args.written.now c.loop-d.d) c.args.written.now c.loop-d.invariant
    (omega (arith, c.requires.rows)) c.requires.col refl)

pub returns : goal.returns
returns g c =
    let all : c.loop-d.d ≡ length c.args.written.now = omega arith in
    let done : ℕ → Type 0 = λ n. WritesFirst (g.S.DigitStore.digits c.args.digits.now)
    (g.S.DigitStore.digits c.loop-d.digits) c.args.first c.args.col n c.args.written.now in
    subst done all c.loop-d.invariant
