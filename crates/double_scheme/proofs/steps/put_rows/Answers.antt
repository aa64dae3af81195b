use Rattle.std.proofs.Common.{◌+◌, ◌-◌, ◌≤◌, ℕ, arith, ap, ◌∙◌}
use Rattle.matrix_u32.specs.Matrix.{WordMatrix}
use Rattle.digit_pack.specs.Products.{rows_times_vector}
use Rattle.double_scheme.proofs.StepLemmas.{piece_len, rows_more}
use Rattle.double_scheme.proofs.steps.put_rows.Goals as goal

pub returns-clause-so_far : goal.returns-clause-so_far
returns-clause-so_far g c =
    let a : WordMatrix = g.S.DigitStore.digits c.args.digits.now in
    let n : ℕ = c.args.count in
    rows_more a c.args.x.now c.args.first n c.args.out.now c.mul_rows.new.out c.requires.inside c.requires.room c.requires.so_far
    (c.mul_rows.ensures ∙ ap (rows_times_vector a c.args.x.now c.args.first) (piece_len c.args.out.now c.args.first n (omega (arith, c.requires.inside, c.requires.room))))
    (c.args.first + n - c.args.first)
