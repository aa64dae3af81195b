use Rattle.std.proofs.Common.{◌^◌, ◌≤◌, arith, sym, lit<}
use Rattle.std.proofs.Math.Nat.{div-eq_of_lt, pow-le-pow_right}
use Rattle.hint_update.proofs.words.shifted.Goals as goal

pub returns-else-bits-lt-BITS : goal.returns-else-bits-lt-BITS
returns-else-bits-lt-BITS c =
    let many : 32 ≤ c.args.bits = omega arith in
    let high : 2 ^ 32 ≤ 2 ^ c.args.bits = pow-le-pow_right {n = 2} (lit< tt) many in
    sym (div-eq_of_lt (omega (arith, high)))
