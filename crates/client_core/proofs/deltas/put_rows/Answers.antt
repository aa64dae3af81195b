use Rattle.std.proofs.Common.{◌≡◌, ◌∙◌, ◌<◌, sym, ap, take, arith}
use Rattle.matrix_u32.specs.Matrix.{WordMatrix, with_row}
use Rattle.frame_codec.specs.Rows.{rows_in, row_count}
use Rattle.client_core.proofs.MovedRows.{with_rows-rows, with_rows-cols, with_rows-none, with_rows-next, with_rows-all, rows_below}
use Rattle.client_core.proofs.deltas.put_rows.Goals as goal

pub loop-j-init : goal.loop-j-init
loop-j-init c = with_rows-none c.args.matrix.now

pub put_row-requires-clause-row : goal.put_row-requires-clause-row
put_row-requires-clause-row c =
    let lt : c.loop-j.j < row_count c.args.rows.now = omega arith in
    let rows : c.loop-j.matrix.rows ≡ c.args.matrix.now.rows =
    ap (λ (m : WordMatrix). m.rows) c.loop-j.invariant ∙ with_rows-rows c.args.matrix.now (take c.loop-j.j (rows_in c.args.rows.now)) in
    omega (arith, c.row-number.ensures.number, rows_below c.args.matrix.now.rows c.args.rows.now c.loop-j.j c.requires.below lt)

pub put_row-requires-clause-len : goal.put_row-requires-clause-len
put_row-requires-clause-len c =
    let cols : c.loop-j.matrix.cols ≡ c.args.matrix.now.cols =
    ap (λ (m : WordMatrix). m.cols) c.loop-j.invariant ∙ with_rows-cols c.args.matrix.now (take c.loop-j.j (rows_in c.args.rows.now)) in
    c.row-number.ensures.len ∙ c.requires.len ∙ sym cols

pub loop-j-preserved : goal.loop-j-preserved
loop-j-preserved c =
    let lt : c.loop-j.j < row_count c.args.rows.now = omega arith in
    c.put_row.ensures
    ∙ ap (λ (m : WordMatrix). with_row m c.row-number.result.0 c.row-number.result.1.now) c.loop-j.invariant
    ∙ rw (c.row-number.ensures.number, c.row-number.ensures.words) (sym (with_rows-next c.args.matrix.now c.args.rows.now c.loop-j.j lt))

pub returns : goal.returns
returns c = c.loop-j.invariant ∙ with_rows-all c.args.matrix.now c.args.rows.now c.loop-j.j (omega arith)
