use Rattle.std.proofs.Common.{arith, ◌∙◌}
use Rattle.std.proofs.lemmas.List.{length-set}
use Rattle.matrix_u32.specs.Matrix.{entry}
use Rattle.matrix_u32.proofs.Products.{words_are, filled_more}
use Rattle.simple_scheme.proofs.hints.read_row.Goals as goal

pub loop-j-preserved : goal.loop-j-preserved
loop-j-preserved g c = record {
  count = length-set _ _ _ ∙ c.loop-j.invariant.count;
  done = filled_more c.loop-j.out c.loop-j.j c.get.result (entry (g.S.DigitStore.digits c.args.digits.now) c.args.i)
      (omega (arith, c.loop-j.invariant.count)) c.get.ensures c.loop-j.invariant.done;
}

pub returns : goal.returns
returns g c =
    words_are c.loop-j.out (g.S.DigitStore.digits c.args.digits.now).cols (entry (g.S.DigitStore.digits c.args.digits.now) c.args.i)
    (c.loop-j.invariant.count ∙ c.requires.width) (λ k h. c.loop-j.invariant.done k (omega (arith, c.requires.width)))
