use Rattle.std.proofs.Common.{arith, ◌∙◌, ℕ}
use Rattle.std.proofs.lemmas.List.{length-set}
use Rattle.matrix_u32.specs.Matrix.{entry}
use Rattle.matrix_u32.proofs.Products.{words_are, filled_more}
use Rattle.double_scheme.proofs.hints.read_column.Goals as goal

pub loop-i-preserved : goal.loop-i-preserved
loop-i-preserved c = record {
  count = length-set _ _ _ ∙ c.loop-i.invariant.count;
  done = filled_more c.loop-i.words c.loop-i.i c.get.result (λ (k : ℕ). entry c.args.a.now k c.args.j)
      (omega (arith, c.loop-i.invariant.count)) c.get.ensures c.loop-i.invariant.done;
}

pub returns : goal.returns
returns c =
    words_are c.loop-i.words c.args.a.now.rows (λ (k : ℕ). entry c.args.a.now k c.args.j)
    (c.loop-i.invariant.count ∙ c.requires.room) (λ k h. c.loop-i.invariant.done k (omega (arith, c.requires.room)))
