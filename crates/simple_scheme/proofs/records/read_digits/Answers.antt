use Rattle.std.proofs.Common.{arith, ◌+◌, length}
use Rattle.std.specs.Prelude.{slice_index}
use Rattle.matrix_u32.specs.Matrix.{row}
use Rattle.matrix_u32.proofs.Products.{words_are}
use Rattle.regev_core.specs.Encryption.{nearest, stripped}
use Rattle.simple_scheme.proofs.records.read_digits.Goals as goal

pub returns : goal.returns
returns g c =
    words_are c.loop-d.out (length c.args.out.now)
    (λ d. nearest c.args.w (stripped (slice_index c.args.answer.now (c.args.first + d)) (row c.args.hint.now (c.args.first + d)) c.args.s.now))
    c.loop-d.auto.out (λ k l. c.loop-d.invariant k (omega arith))
