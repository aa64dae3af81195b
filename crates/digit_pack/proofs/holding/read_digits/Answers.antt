use Rattle.std.proofs.Common.{arith, ◌+◌, length}
use Rattle.matrix_u32.specs.Matrix.{entry}
use Rattle.matrix_u32.proofs.Products.{words_are}
use Rattle.digit_pack.proofs.holding.read_digits.Goals as goal

pub returns : goal.returns
returns g c =
    words_are c.loop-d.out (length c.args.out.now) (λ d. entry (g.S.DigitStore.digits c.args.digits.now) (c.args.first + d) c.args.col)
    c.loop-d.auto.out (λ k l. c.loop-d.invariant k (omega arith))
