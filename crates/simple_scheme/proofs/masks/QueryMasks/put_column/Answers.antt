use Rattle.std.proofs.Common.{arith, ap, ◌∙◌}
use Rattle.std.proofs.lemmas.List.{length-set}
use Rattle.matrix_u32.specs.Matrix.{WordMatrix, entry}
use Rattle.matrix_u32.proofs.Products.{words_are, filled_more}
use Rattle.simple_scheme.proofs.masks.QueryMasks.put_column.Goals as goal

pub loop-j-preserved : goal.loop-j-preserved
loop-j-preserved c = record {
  count = length-set _ _ _ ∙ c.loop-j.invariant.count;
  done = filled_more c.loop-j.out c.loop-j.j c.get.result (λ j. entry c.args.self.now j c.args.c)
      (omega (arith, c.loop-j.invariant.count)) (c.get.ensures ∙ ap (λ (m : WordMatrix). entry m c.loop-j.j c.args.c) c.self.view_is) c.loop-j.invariant.done;
}

pub returns : goal.returns
returns c =
    words_are c.loop-j.out c.args.self.now.rows (λ j. entry c.args.self.now j c.args.c)
    (c.loop-j.invariant.count ∙ c.requires.room) (λ k h. c.loop-j.invariant.done k (omega (arith, c.requires.room)))
