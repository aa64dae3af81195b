use Rattle.std.proofs.Common.{arith, ◌≤◌, ◌^◌, ◌*◌, ◌%◌, ◌-◌}
use Rattle.std.proofs.Math.Nat.{mul-le-mul}
use Rattle.std.proofs.Math.Pow.{pow_mono}
use Rattle.noise_odds.proofs.margin_of.Goals as goal

pub returns-clause-few : goal.returns-clause-few
returns-clause-few c =
    let high : 2 ^ (31 - c.args.width) ≤ 2 ^ 25 = pow_mono {i = 31 - c.args.width} {j = 25} (omega arith) in
    let half : 1 * 2 ^ (31 - c.args.width) % 18446744073709551616 ≤ 2 ^ 25 = omega (arith, high) in
    mul-le-mul half half
