use Rattle.std.proofs.Common.{◌+◌, ◌-◌, ◌≤◌, ℕ, arith, ap, ◌∙◌}
use Rattle.matrix_u32.specs.Matrix.{WordMatrix}
use Rattle.digit_pack.specs.Products.{rows_times_vector}
use Rattle.double_scheme.proofs.StepLemmas.{piece_len, rows_more}
use Rattle.double_scheme.proofs.steps.put_two_rows.Goals as goal

pub returns-clause-x : goal.returns-clause-x
returns-clause-x g c =
    let a : WordMatrix = g.S.DigitStore.digits c.args.digits.now in
    let n : ℕ = c.args.count in
    rows_more a c.args.x.now c.args.first n c.args.x_out.now c.mul_two_rows.new.x_out c.requires.inside c.requires.x_room c.requires.x_so_far
    (c.mul_two_rows.ensures.x ∙ ap (rows_times_vector a c.args.x.now c.args.first) (piece_len c.args.x_out.now c.args.first n (omega (arith, c.requires.inside, c.requires.x_room))))
    (c.args.first + n - c.args.first)

pub returns-clause-y : goal.returns-clause-y
returns-clause-y g c =
    let a : WordMatrix = g.S.DigitStore.digits c.args.digits.now in
    let n : ℕ = c.args.count in
    rows_more a c.args.y.now c.args.first n c.args.y_out.now c.mul_two_rows.new.y_out c.requires.inside c.requires.y_room c.requires.y_so_far
    (c.mul_two_rows.ensures.y ∙ ap (rows_times_vector a c.args.y.now c.args.first) (piece_len c.args.x_out.now c.args.first n (omega (arith, c.requires.inside, c.requires.x_room))))
    (c.args.first + n - c.args.first)
