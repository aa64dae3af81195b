use Rattle.std.proofs.Common.{arith, ap, ◌∙◌, ◌*◌, ◌+◌, ◌≤◌, length, mul-le-mul_right, ℕ, List}
use Rattle.std.specs.Prelude.{slice_index}
use Rattle.matrix_u32.specs.Sum.{list_of}
use Rattle.matrix_u32.specs.Matrix.{row}
use Rattle.matrix_u32.proofs.Products.{piece-list_of}
use Rattle.matrix_u32.proofs.matrix.Matrix.row.Goals as goal

pub returns-clause-value : goal.returns-clause-value
returns-clause-value c =
    let below : c.args.i + 1 ≤ c.self.inside.rows = omega (arith, ap (λ m. m.rows) c.self.view_is) in
    let room : c.args.i * c.self.inside.cols + c.self.inside.cols ≤ length c.deref.result.now =
    omega (arith, ap length c.deref.ensures.value, c.self.invariant.0, mul-le-mul_right c.self.inside.cols below) in
    piece-list_of c.deref.result.now (c.args.i * c.self.inside.cols) c.self.inside.cols room
    ∙ ap (λ (ws : List ℕ). list_of c.self.inside.cols (λ j. slice_index ws (c.args.i * c.self.inside.cols + j))) c.deref.ensures.value
    ∙ ap (λ m. row m c.args.i) c.self.view_is
