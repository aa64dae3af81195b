use Rattle.std.proofs.Common.{arith}
use Rattle.matrix_u32.specs.Sum.{dot}
use Rattle.matrix_u32.specs.Matrix.{WordMatrix, row, column, product}
use Rattle.simple_scheme.specs.Simple.{hint_of}
use Rattle.simple_scheme.proofs.Rows.{no_rows, more_rows, all_rows}
use Rattle.simple_scheme.proofs.hints.setup_watched.Goals as goal

pub loop-start-init : goal.loop-start-init
loop-start-init g c = record {
  within = omega arith;
  written = no_rows (product (g.S.DigitStore.digits c.args.digits.now) c.args.a1.now) c.in-Ok.hint c.rows-rows.result c.cols.result
      c.in-Ok.ensures.zeros.0 c.rows-rows.ensures.value c.cols.ensures;
}

pub loop-start-preserved : goal.loop-start-preserved
loop-start-preserved g c =
    let p = c.in_ok-put_rows.ensures in
    record {
      within = omega arith;
      written = more_rows (product (g.S.DigitStore.digits c.args.digits.now) c.args.a1.now) c.loop-start.hint c.put_rows.new.hint c.loop-start.start _
          p.shape p.written p.kept c.loop-start.invariant.written;
    }

pub returns : goal.returns
unfolding hint_of
returns g c =
    let d : WordMatrix = g.S.DigitStore.digits c.args.digits.now in
    let a : WordMatrix = c.args.a1.now in
    all_rows d.rows a.cols c.loop-start.start (λ i j. dot (row d i) (column a j)) c.loop-start.hint (omega (arith, c.rows-rows.ensures.value))
    c.loop-start.invariant.written
