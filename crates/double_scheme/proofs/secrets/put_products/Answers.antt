use Rattle.std.proofs.Common.{◌≡◌, ℕ, ◌+◌, ◌*◌, ◌<◌, arith, ap, ◌∙◌, below_more, length}
use Rattle.std.specs.Prelude.{slice_index}
use Rattle.matrix_u32.specs.Sum.{list_of, dot}
use Rattle.matrix_u32.specs.Matrix.{WordMatrix, entry, row, times_vector}
use Rattle.matrix_u32.proofs.Products.{at-list_of, same-list_of, length-list_of, dot_comm}
use Rattle.seed_expand.specs.Words.{source_word, further, source_rows}
use Rattle.seed_expand.proofs.Sources.{further-further, row-source_rows}
use Rattle.double_scheme.proofs.secrets.put_products.Goals as goal

pub loop-r-preserved : goal.loop-r-preserved
loop-r-preserved g c =
    let s : WordMatrix = c.args.secrets.now in
    let n : ℕ = s.cols in
    let a : WordMatrix = source_rows c.args.source c.args.out.now.cols n in
    let r : ℕ = c.loop-r.r in
    let inside : r < c.args.out.now.cols = omega (arith, c.loop-r-test.true, c.loop-r.invariant.cols) in
    let given : c.fill_words.new.out ≡ row a r =
    c.fill_words.ensures.words
    ∙ ap (λ k. list_of k (source_word c.loop-r.source)) c.loop-r.invariant.wide
    ∙ ap (λ s. list_of n (source_word s)) c.loop-r.invariant.source
    ∙ row-source_rows c.args.source c.args.out.now.cols n r inside in
    let column : c.mul_vec.new.out ≡ times_vector s (row a r) = c.mul_vec.ensures ∙ ap (λ x. times_vector s x) given in
    record {
      rows = c.put_column.ensures.rows ∙ c.loop-r.invariant.rows;
      cols = c.put_column.ensures.cols ∙ c.loop-r.invariant.cols;
      wide = ap length given ∙ length-list_of n _;
      tall = ap length column ∙ length-list_of s.rows _;
      source = c.fill_words.ensures.source
          ∙ ap (λ s. further s (length c.loop-r.row_room)) c.loop-r.invariant.source
          ∙ ap (λ k. further (further c.args.source (r * n)) k) c.loop-r.invariant.wide
          ∙ further-further c.args.source (r * n) n
          ∙ ap (further c.args.source) (omega arith);
      filled = λ d k p. below_more (λ k. entry c.put_column.new.out d k ≡ dot (row a k) (row s d)) r
          (λ k l. c.put_column.ensures.others d k (omega (arith, p, c.loop-r.invariant.rows)) (omega (arith, l, inside, c.loop-r.invariant.cols)) (λ e. absurd (omega (arith, e, l)))
          ∙ c.loop-r.invariant.filled d k p l)
          (c.put_column.ensures.here d (omega (arith, p, c.loop-r.invariant.rows))
          ∙ ap (λ ws. slice_index ws d) column
          ∙ at-list_of s.rows (λ i. dot (row s i) (row a r)) d (omega (arith, p, c.requires.rows))
          ∙ dot_comm n (λ j. entry s d j) (λ j. entry a r j)) k;
    }

pub returns-clause-products : goal.returns-clause-products
returns-clause-products g c = λ d p.
    let a : WordMatrix = source_rows c.args.source c.args.out.now.cols c.args.secrets.now.cols in
    ap (λ n. list_of n (λ k. entry c.loop-r.out d k)) c.loop-r.invariant.cols
    ∙ same-list_of c.args.out.now.cols _ (λ k. dot (row a k) (row c.args.secrets.now d))
    (λ k l. c.loop-r.invariant.filled d k p (omega (arith, l, c.loop-r-test.false, c.loop-r.invariant.cols)))
