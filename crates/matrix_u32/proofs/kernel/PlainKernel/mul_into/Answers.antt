use Rattle.std.proofs.Common.{◌≡◌, ◌<◌, ◌∙◌, List, ℕ, arith, ap, sym, length, inl, inr}
use Rattle.std.specs.Prelude.{slice_index}
use Rattle.std.proofs.lemmas.Bool.{cases_lt}
use Rattle.matrix_u32.specs.Sum.{dot}
use Rattle.matrix_u32.specs.Matrix.{row, column, product}
use Rattle.matrix_u32.proofs.Products.{entry-product}
use Rattle.matrix_u32.proofs.Rows.{length-row, row_index, length-written_row, written_row-same, written_row-other}
use Rattle.matrix_u32.proofs.Changes.{matrix_by_entries}
use Rattle.matrix_u32.proofs.kernel.PlainKernel.mul_into.Goals as goal

pub loop-i-preserved : goal.loop-i-preserved
loop-i-preserved c =
    let a = c.args.a.now in
    let b = c.args.b.now in
    let i : ℕ = c.loop-i.i in
    let out = c.loop-i.out in
    let before = c.loop-i.invariant in
    let words : List ℕ = c.put_product_row.new.out in
    let same : words ≡ row (product a b) i = c.put_product_row.ensures in
    let long : length words ≡ out.cols = ap length same ∙ length-row (product a b) i ∙ sym before.cols in
    let inside : i < out.rows = omega (arith, before.rows) in
    record {
      rows = before.rows;
      cols = before.cols;
      whole = length-written_row out i words before.whole inside long;
      done = λ p q hp hq.
          let here : q < out.cols = omega (arith, before.cols) in
          elim (cases_lt p i) [
            | inl lt ↦ written_row-other out i words before.whole inside long p q (omega arith) here ∙ before.done p q lt hq
            | inr le ↦
                let e : p ≡ i = omega arith in
                rw e (written_row-same out i words before.whole inside long q here ∙ ap (λ xs. slice_index xs q) same ∙ row_index (product a b) i q hq)
          ];
    }

pub returns : goal.returns
returns c =
    let a = c.args.a.now in
    let b = c.args.b.now in
    matrix_by_entries c.loop-i.out a.rows b.cols (λ i j. dot (row a i) (column b j))
    c.loop-i.invariant.rows c.loop-i.invariant.cols c.loop-i.invariant.whole
    (λ p q hp hq. c.loop-i.invariant.done p q (omega arith) hq ∙ entry-product a b p q hp hq)
