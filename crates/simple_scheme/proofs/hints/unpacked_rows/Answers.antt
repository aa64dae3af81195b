use Rattle.std.proofs.Common.{arith, sym, refl, ◌∙◌, ◌+◌}
use Rattle.matrix_u32.specs.Matrix.{WordMatrix, entry}
use Rattle.simple_scheme.specs.Blocks.{rows_from}
use Rattle.simple_scheme.proofs.Rows.{no_rows, one_row, all_rows, row-rows_from}
use Rattle.simple_scheme.proofs.hints.unpacked_rows.Goals as goal

pub loop-i-init : goal.loop-i-init
loop-i-init g c =
    no_rows (rows_from (g.S.DigitStore.digits c.args.digits.now) c.args.start c.args.count) c.in-Ok.block c.args.count c.cols.result
    c.in-Ok.ensures.zeros.0 refl c.cols.ensures

pub loop-i-preserved : goal.loop-i-preserved
loop-i-preserved g c =
    let d : WordMatrix = g.S.DigitStore.digits c.args.digits.now in
    one_row (rows_from d c.args.start c.args.count) c.loop-i.block c.loop-i.i (c.loop-i.i + 1) c.read_row.new.out refl (omega arith)
    (c.read_row.ensures ∙ sym (row-rows_from d c.args.start c.args.count c.loop-i.i (omega arith))) c.loop-i.invariant

pub returns : goal.returns
returns g c =
    let d : WordMatrix = g.S.DigitStore.digits c.args.digits.now in
    all_rows c.args.count d.cols c.loop-i.i (λ i j. entry d (c.args.start + i) j) c.loop-i.block (omega arith) c.loop-i.invariant
