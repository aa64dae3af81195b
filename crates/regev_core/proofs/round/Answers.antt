use Rattle.std.proofs.Common.{arith, ap, sym, subst, ◌+◌, ◌/◌, ◌%◌, ◌^◌}
use Rattle.regev_core.specs.Encryption.{nearest, IsNearest}
use Rattle.regev_core.proofs.Rounding.{delta_pos, nearest_is}
use Rattle.regev_core.proofs.round.Goals as goal

pub nonzero_div-result-2 : goal.nonzero_div-result-2
nonzero_div-result-2 c = omega (arith, delta_pos c.args.w)

pub returns-clause-nearest : goal.returns-clause-nearest
unfolding nearest
returns-clause-nearest c =
    let same = ap (λ d. (c.args.word + d / 2) % 2 ^ 32 / d) (sym c.delta-step.ensures) in
    subst (IsNearest c.args.w c.args.word) same (nearest_is c.args.w c.args.word (omega arith))
