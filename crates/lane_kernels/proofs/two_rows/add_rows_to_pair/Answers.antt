use Rattle.std.proofs.Common.{◌++◌, ap₂}
use Rattle.lane_kernels.proofs.two_rows.add_rows_to_pair.Goals as goal

pub returns : goal.returns
returns c =
    let x = rw (c.split_at_mut-x.ensures.front, c.cols.ensures) at c.add_rows_to_two.ensures.x in
    let y = rw (c.split_at_mut-x.ensures.back, c.cols.ensures) at c.add_rows_to_two.ensures.y in
    ap₂ ◌++◌ x y
