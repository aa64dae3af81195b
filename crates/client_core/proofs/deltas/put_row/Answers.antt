use Rattle.std.proofs.Common.{◌≡◌, ◌∙◌, List, ℕ, length, ap}
use Rattle.matrix_u32.specs.Matrix.{with_row}
use Rattle.matrix_u32.proofs.Rows.{written_row_is}
use Rattle.client_core.proofs.deltas.put_row.Goals as goal

pub returns : goal.returns
returns c =
    let long : length c.copy_from_slice.new.self ≡ c.args.matrix.now.cols = ap length c.copy_from_slice.ensures.after ∙ c.requires.len in
    written_row_is c.args.matrix.now c.args.number c.copy_from_slice.new.self c.rows-rows.ensures.whole c.requires.row long
    ∙ ap (λ (x : List ℕ). with_row c.args.matrix.now c.args.number x) c.copy_from_slice.ensures.after
