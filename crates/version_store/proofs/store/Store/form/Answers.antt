use Rattle.std.proofs.Common.{ap, arith}
use Rattle.pir_schemes.specs.declared.plan.Plan.{Plan}
use Rattle.digit_pack.proofs.FormLemmas.{low_form}
use Rattle.version_store.proofs.store.Store.form.Goals as goal

pub overflow_cast-result : goal.overflow_cast-result
overflow_cast-result g c =
    record { fits = omega (arith, low_form _ _ c.layout.ensures.plan.form, ap (λ (p : Plan). p.form) c.plan.ensures) }
