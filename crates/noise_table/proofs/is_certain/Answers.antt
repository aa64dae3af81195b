use Rattle.std.proofs.Common.{arith, ℕ, ◌≡◌, ◌-◌, ◌*◌, ◌/◌, ◌%◌, ◌^◌, ◌<◌, nat_lt, IsTrue, ◌↔◌}
use Rattle.std.proofs.lemmas.Bool.Decides.{nat_tests}
use Rattle.std.proofs.lemmas.Nat.{one_shl}
use Rattle.noise_table.specs.Margin.{delta}
use Rattle.noise_table.proofs.is_certain.Goals as goal

-- the code's test is the fact
below : (a b : ℕ) → IsTrue (nat_lt a b) ↔ (a < b)
below a b = (λ h. grind (arith, nat_tests), λ h. grind (arith, nat_tests))

pub returns : goal.returns
unfolding delta
returns c =
    let low : 1 * 2 ^ c.args.w % 2 ^ 128 ≡ 2 ^ c.args.w = one_shl c.args.w 128 (omega arith) in
    let high : 1 * 2 ^ (32 - c.args.w) % 2 ^ 128 ≡ 2 ^ (32 - c.args.w) = one_shl (32 - c.args.w) 128 (omega arith) in
    rw (low, high) (below (27 * (2 ^ c.args.w - 1) * c.args.terms) (2 ^ (32 - c.args.w) / 2))
