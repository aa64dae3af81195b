use Rattle.std.proofs.Common.{subst, sym, ap, arith, ◌≤◌, length}
use Rattle.version_store.specs.Editions.{Records, IsMadeTwice}
use Rattle.version_store.proofs.Grown.{made-grown}
use Rattle.version_store.proofs.edition.Edition.grow.Goals as goal

pub invariant_of-self : goal.invariant_of-self
invariant_of-self g c =
    (subst (λ (e : Records). IsMadeTwice e c.self.inside.a2 c.self.inside.server c.self.inside.client) (sym c.in_err-grow.ensures.refused) c.self.invariant.0, c.clear.ensures _)

pub invariant_of-self-2 : goal.invariant_of-self-2
invariant_of-self-2 g c =
    let more : length c.self.inside.layer.records ≤ c.args.count = omega (arith, c.requires.more, ap (λ (e : Records). length e.records) c.self.view_is) in (
      subst (λ (e : Records). IsMadeTwice e c.self.inside.a2 c.self.inside.server c.self.inside.client) (sym c.in_ok-grow.ensures.grown)
          (made-grown c.self.inside.layer c.args.count c.self.inside.a2 c.self.inside.server c.self.inside.client c.layout.ensures.plan more c.self.invariant.0),
      c.clear.ensures _,
    )
