use Rattle.std.proofs.Common.{◌*◌, ◌≤◌, arith}
use Rattle.std.proofs.lemmas.Nat.{mul-le}
use Rattle.lane_kernels.specs.Digit.{split_count}
use Rattle.kernel_bench.proofs.timing.double_setup.Goals as goal

-- a word has four digits of ten bits
pub setup-requires-clause-room : goal.setup-requires-clause-room
unfolding split_count
setup-requires-clause-room c =
    let across : c.args.hint.now.cols * 4 ≤ 4096 = omega (arith, c.requires.col_limit) in
    let few : c.args.hint.now.cols * 4 * c.args.hint.now.rows ≤ 4096 * 4096 =
    mul-le (c.args.hint.now.cols * 4) c.args.hint.now.rows 4096 4096 across c.requires.row_limit in
    omega (arith, few)
