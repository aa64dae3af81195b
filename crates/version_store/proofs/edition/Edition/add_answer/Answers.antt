use Rattle.std.proofs.Common.{◌∙◌, ap, sym}
use Rattle.pir_schemes.specs.declared.plan.Plan.{Plan}
use Rattle.version_store.specs.Editions.{Records}
use Rattle.version_store.proofs.edition.Edition.add_answer.Goals as goal

pub invariant_of-self : goal.invariant_of-self
invariant_of-self g c =
    let e : Records = c.self.inside.layer in
    let dimension = ap (λ (p : Plan). p.dimension) (sym c.plan.ensures) ∙ sym c.from-dimension.ensures in
    (c.self.invariant.0, c.add.ensures e c.self.invariant.1 (c.in_ok-one.ensures.begun e (sym c.layout-layout.ensures.value) dimension))
