use Rattle.std.proofs.Common.{arith, ap, ◌∙◌, ◌+◌, length}
use Rattle.matrix_u32.specs.Sum.{dot}
use Rattle.matrix_u32.specs.Matrix.{WordMatrix, row}
use Rattle.matrix_u32.proofs.Products.{words_are}
use Rattle.digit_pack.specs.Products.{rows_times_vector}
use Rattle.digit_pack.proofs.store.FlatDigitStore.mul_rows.Goals as goal

pub returns : goal.returns
returns g c =
    words_are c.loop-i.out (length c.args.out.now) (λ k. dot (row c.self.inside.matrix (c.args.first + k)) c.args.x.now) (omega arith)
    (λ k l. c.loop-i.invariant k (omega arith))
    ∙ ap (λ (m : WordMatrix). rows_times_vector m c.args.x.now c.args.first (length c.args.out.now)) c.self.view_is
