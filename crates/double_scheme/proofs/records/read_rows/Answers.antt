use Rattle.std.proofs.Common.{◌≡◌, ℕ, ◌<◌, List, arith, ap, ◌∙◌, below_more}
use Rattle.matrix_u32.specs.Sum.{list_of}
use Rattle.matrix_u32.specs.Matrix.{entry, row}
use Rattle.matrix_u32.proofs.Products.{same-list_of}
use Rattle.double_scheme.specs.Double.{answer_part, server_hint_words, second_word}
use Rattle.double_scheme.proofs.records.read_rows.Goals as goal

pub loop-k-preserved : goal.loop-k-preserved
loop-k-preserved g c =
    let n : ℕ = c.args.client_hint.now.cols in
    let k : ℕ = c.loop-k.k in
    let words : ℕ → List ℕ = λ d. server_hint_words c.args.reading.now.w n (answer_part c.args.reading.now.w n c.args.reading.now.answer.now d) in
    record {
      rows = c.read_column.ensures.rows ∙ c.loop-k.invariant.rows;
      cols = c.read_column.ensures.cols ∙ c.loop-k.invariant.cols;
      read = λ d j p. below_more (λ j. entry c.read_column.new.out d j ≡ second_word c.args.reading.now.w c.args.client_hint.now (row c.args.reading.now.secrets.now d) (words d) j) k
          (λ j l. c.read_column.ensures.others d j (omega (arith, p, c.requires.out_rows, c.loop-k.invariant.rows))
          (omega (arith, l, c.loop-k-test.true, c.cols-k-end.ensures, c.requires.out_cols, c.loop-k.invariant.cols)) (λ e. absurd (omega (arith, e, l)))
          ∙ c.loop-k.invariant.read d j p l)
          (c.read_column.ensures.here d p) j;
    }

pub returns-clause-rows : goal.returns-clause-rows
returns-clause-rows g c = λ d p.
    let n : ℕ = c.args.client_hint.now.cols in
    ap (λ m. list_of m (λ j. entry c.loop-k.out d j)) (c.loop-k.invariant.cols ∙ c.requires.out_cols)
    ∙ same-list_of n _ (second_word c.args.reading.now.w c.args.client_hint.now (row c.args.reading.now.secrets.now d) (server_hint_words c.args.reading.now.w n (answer_part c.args.reading.now.w n c.args.reading.now.answer.now d)))
    (λ j l. c.loop-k.invariant.read d j p (omega (arith, l, c.loop-k-test.false, c.cols-k-end.ensures)))
