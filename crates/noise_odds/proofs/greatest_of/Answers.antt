use Rattle.std.proofs.Common.{arith, ◌≤◌, ◌^◌}
use Rattle.std.proofs.Math.Pow.{pow_mono}
use Rattle.noise_odds.proofs.greatest_of.Goals as goal

pub returns-clause-some : goal.returns-clause-some
returns-clause-some c =
    let low : 2 ^ 6 ≤ 2 ^ c.args.width = pow_mono {i = 6} {j = c.args.width} (omega arith) in
    let high : 2 ^ c.args.width ≤ 2 ^ 10 = pow_mono {i = c.args.width} {j = 10} (omega arith) in
    omega (arith, low, high)

pub returns-clause-few : goal.returns-clause-few
returns-clause-few c =
    let high : 2 ^ c.args.width ≤ 2 ^ 10 = pow_mono {i = c.args.width} {j = 10} (omega arith) in
    omega (arith, high)
