use Rattle.std.proofs.Common.{◌≡◌, ℕ, ◌<◌, arith, ap, ◌∙◌, below_more, length}
use Rattle.std.specs.Prelude.{slice_index}
use Rattle.matrix_u32.specs.Sum.{list_of, dot}
use Rattle.matrix_u32.specs.Matrix.{WordMatrix, entry, row, times_vector}
use Rattle.matrix_u32.proofs.Products.{at-list_of, same-list_of, length-list_of}
use Rattle.double_scheme.proofs.Products.{dot_rows}
use Rattle.double_scheme.proofs.secrets.put_matrix_products.Goals as goal

pub loop-r-preserved : goal.loop-r-preserved
loop-r-preserved g c =
    let s : WordMatrix = c.args.secrets.now in
    let a : WordMatrix = c.args.a.now in
    let r : ℕ = c.loop-r.r in
    let inside : r < c.args.out.now.cols = omega (arith, c.loop-r-test.true, c.rows-r-end.ensures.value, c.requires.high) in
    let column : c.mul_vec.new.out ≡ times_vector s (row a r) = c.mul_vec.ensures ∙ ap (λ x. times_vector s x) c.row.ensures.value in
    record {
      rows = c.put_column.ensures.rows ∙ c.loop-r.invariant.rows;
      cols = c.put_column.ensures.cols ∙ c.loop-r.invariant.cols;
      tall = ap length column ∙ length-list_of s.rows _;
      filled = λ d k p. below_more (λ k. entry c.put_column.new.out d k ≡ dot (row a k) (row s d)) r
          (λ k l. c.put_column.ensures.others d k (omega (arith, p, c.loop-r.invariant.rows)) (omega (arith, l, inside, c.loop-r.invariant.cols)) (λ e. absurd (omega (arith, e, l)))
          ∙ c.loop-r.invariant.filled d k p l)
          (c.put_column.ensures.here d (omega (arith, p, c.loop-r.invariant.rows))
          ∙ ap (λ ws. slice_index ws d) column
          ∙ at-list_of s.rows (λ i. dot (row s i) (row a r)) d (omega (arith, p, c.requires.rows))
          ∙ dot_rows s a d r c.requires.wide) k;
    }

pub returns-clause-products : goal.returns-clause-products
returns-clause-products g c = λ d p.
    let a : WordMatrix = c.args.a.now in
    ap (λ n. list_of n (λ k. entry c.loop-r.out d k)) (c.loop-r.invariant.cols ∙ c.requires.high)
    ∙ same-list_of a.rows _ (λ k. dot (row a k) (row c.args.secrets.now d))
    (λ k l. c.loop-r.invariant.filled d k p (omega (arith, l, c.loop-r-test.false, c.rows-r-end.ensures.value)))
