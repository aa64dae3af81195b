use Rattle.std.proofs.Common.{◌≡◌, ℕ, ◌*◌, ◌/◌, ◌<◌, ◌≤◌, arith, ap}
use Rattle.std.proofs.lemmas.Nat.{mul-le, le-div}
use Rattle.matrix_u32.specs.Matrix.{WordMatrix, zero_matrix}
use Rattle.lane_kernels.specs.Digit.{split_count}
use Rattle.hint_update.proofs.Lowest.{digits_some, digits_few}
use Rattle.hint_update.proofs.rows.RowsBuffers.new.Goals as goal

pub nonzero_div-count : goal.nonzero_div-count
nonzero_div-count c =
    let some : 1 < split_count c.args.w = digits_some c.args.w c.requires.width.0 c.requires.width.1 in
    omega (arith, some, c.split_count-step.ensures)

pub returns : goal.returns
returns c =
    let step : ℕ = c.split_count-step.result in
    let few : split_count c.args.w ≤ 6 = digits_few c.args.w c.requires.width.0 in
    let some : 1 < split_count c.args.w = digits_some c.args.w c.requires.width.0 c.requires.width.1 in
    let any : 1 ≤ 32 / step = le-div 1 32 step (omega (arith, some, c.split_count-step.ensures)) (omega (arith, few, c.split_count-step.ensures)) in
    let high : 1 * 1 ≤ 32 / step * step = mul-le 1 1 (32 / step) step any (omega (arith, some, c.split_count-step.ensures)) in
    let public : c.in-Ok.public ≡ zero_matrix c.args.most c.args.cols = c.in-Ok.ensures.zeros.0 in
    let changes : c.in-Ok-zeros.changes ≡ zero_matrix (32 / step * step) c.args.most = c.in-Ok-zeros.ensures.zeros.0 in
    let rows : c.in-Ok-zeros.changes.rows ≡ 32 / step * step = ap (λ (m : WordMatrix). m.rows) changes in
    record {
      public_rows = ap (λ (m : WordMatrix). m.rows) public;
      public_cols = ap (λ (m : WordMatrix). m.cols) public;
      blocks = omega (arith, high, rows);
      changes = ap (λ (m : WordMatrix). m.cols) changes;
      new_digits = omega (arith, c.in_ok-new_digits.ensures.len, c.in_ok-new_digits.new_digits.ok, rows);
      old_digits = omega (arith, c.in_ok-old_digits.ensures.len, c.in_ok-old_digits.old_digits.ok, rows);
      sums = omega (arith, c.in_ok-sums.ensures.len, c.in_ok-sums.sums.ok);
      words = c.in_ok-words.ensures;
    }
