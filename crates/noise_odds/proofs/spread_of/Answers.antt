use Rattle.std.proofs.Common.{arith, ◌≤◌, ◌+◌, ◌*◌, ◌^◌}
use Rattle.std.proofs.Math.Nat.{mul-le-mul, one-le-mul}
use Rattle.noise_odds.proofs.spread_of.Goals as goal

pub returns-clause-some : goal.returns-clause-some
returns-clause-some c =
    let root : 1 ≤ c.args.terms * (2 * c.args.greatest + 1) = one-le-mul (omega arith) (omega arith) in
    one-le-mul root root

pub returns-clause-few : goal.returns-clause-few
returns-clause-few c =
    let factor : 2 * c.args.greatest + 1 ≤ 2 ^ 11 = omega arith in
    let terms : c.args.terms ≤ 2 ^ 15 = omega arith in
    let root : c.args.terms * (2 * c.args.greatest + 1) ≤ 2 ^ 15 * 2 ^ 11 = mul-le-mul terms factor in
    mul-le-mul root root
