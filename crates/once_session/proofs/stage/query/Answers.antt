use Rattle.std.proofs.Common.{arith, ap, ◌∙◌, ◌≡◌, length}
use Rattle.matrix_u32.specs.Sum.{dot}
use Rattle.matrix_u32.specs.Matrix.{row}
use Rattle.matrix_u32.proofs.Products.{length-list_of}
use Rattle.simple_scheme.specs.Simple.{simple_answer}
use Rattle.once_session.proofs.stage.query.Goals as goal

pub returns-clause-fits : goal.returns-clause-fits
unfolding simple_answer
returns-clause-fits g c =
    let long : length c.new.result ≡ c.args.table.now.digits.rows =
    ap length c.new.ensures.items ∙ ap length c.in_ok-answered.ensures
    ∙ length-list_of c.args.table.now.digits.rows (λ i. dot (row c.args.table.now.digits i) c.as_slice-2.result.now) in
    omega (arith, long, c.requires.rows, c.requires.layout.groups)
