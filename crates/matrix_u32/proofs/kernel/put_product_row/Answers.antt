use Rattle.std.proofs.Common.{arith, ◌∙◌, sym}
use Rattle.std.proofs.lemmas.List.{length-set}
use Rattle.matrix_u32.specs.Sum.{dot}
use Rattle.matrix_u32.specs.Matrix.{row, column}
use Rattle.matrix_u32.proofs.Products.{words_are, row-product, filled_more, entry-product}
use Rattle.matrix_u32.proofs.kernel.put_product_row.Goals as goal

pub loop-j-preserved : goal.loop-j-preserved
loop-j-preserved c =
    let a = c.args.a.now in
    let b = c.args.b.now in
    let word = c.column_dot.ensures ∙ entry-product a b c.args.i c.loop-j.j c.requires.row (omega arith) in
    record {
      count = length-set _ _ _ ∙ c.loop-j.invariant.count;
      done = filled_more c.loop-j.out c.loop-j.j c.column_dot.result (λ j. dot (row a c.args.i) (column b j))
          (omega (arith, c.loop-j.invariant.count)) word c.loop-j.invariant.done;
    }

pub returns : goal.returns
returns c =
    let a = c.args.a.now in
    let b = c.args.b.now in
    words_are c.loop-j.out b.cols (λ j. dot (row a c.args.i) (column b j)) c.loop-j.invariant.count
    (λ k h. c.loop-j.invariant.done k (omega arith))
    ∙ sym (row-product a b c.args.i c.requires.row)
