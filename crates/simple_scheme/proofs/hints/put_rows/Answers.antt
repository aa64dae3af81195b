use Rattle.std.proofs.Common.{arith, ap, ◌∙◌, ◌+◌, ◌≡◌}
use Rattle.matrix_u32.specs.Matrix.{WordMatrix, product, row}
use Rattle.simple_scheme.specs.Blocks.{rows_from}
use Rattle.simple_scheme.proofs.Rows.{none_put, one_put, put_rows_are, kept_rows_are, row-some_rows}
use Rattle.simple_scheme.proofs.hints.put_rows.Goals as goal

pub loop-i-init : goal.loop-i-init
loop-i-init g c = none_put c.args.hint.now _ c.args.start _ (omega arith) c.requires.whole

pub loop-i-preserved : goal.loop-i-preserved
loop-i-preserved g c =
    let d : WordMatrix = g.S.DigitStore.digits c.args.digits.now in
    let a : WordMatrix = c.args.a.now in
    let made : c.mul_into.new.out ≡ product (rows_from d c.args.start c.args.count) a =
    c.mul_into.ensures ∙ ap (λ m. product m a) c.in_ok-block.ensures in
    one_put c.args.hint.now (product d a) c.loop-i.hint c.args.start (c.args.start + c.loop-i.i) (c.args.start + (c.loop-i.i + 1)) c.copy_from_slice.new.self
    (omega arith) (omega arith) (omega arith) c.requires.wide
    (c.copy_from_slice.ensures.after ∙ c.row.ensures.value ∙ ap (λ (m : WordMatrix). row m c.loop-i.i) made
    ∙ row-some_rows d a c.args.start c.args.count c.loop-i.i (omega arith) c.requires.inside)
    c.loop-i.invariant

pub returns : goal.returns
returns g c =
    let d : WordMatrix = g.S.DigitStore.digits c.args.digits.now in
    let a : WordMatrix = c.args.a.now in
    let h = c.loop-i.invariant in
    record {
      shape = (h.rows, h.cols, h.whole);
      written = λ i le lt. put_rows_are c.args.hint.now (product d a) c.loop-i.hint c.args.start _ i c.requires.wide h le (omega arith);
      kept = λ i lt. kept_rows_are c.args.hint.now (product d a) c.loop-i.hint c.args.start _ i h lt;
    }
