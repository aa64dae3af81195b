use Rattle.std.proofs.Common.{arith, ap, ◌∙◌, ◌+◌, ◌%◌, ◌^◌, ◌==◌, if◌then◌else◌, pos, length}
use Rattle.regev_core.specs.Encryption.{with_noise}
use Rattle.regev_core.proofs.Masking.{noise_on_products}
use Rattle.regev_core.proofs.encrypt.Goals as goal

pub returns : goal.returns
returns g c =
    c.add_noise.ensures
    ∙ ap (λ words. with_noise c.args.w words c.args.e.now c.args.place) c.mul_vec.ensures
    ∙ noise_on_products c.args.w c.args.a.now c.args.s.now c.args.e.now c.args.place
