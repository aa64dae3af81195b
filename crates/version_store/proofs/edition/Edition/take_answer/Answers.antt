use Rattle.version_store.proofs.edition.Edition.take_answer.Goals as goal

pub invariant_of-self : goal.invariant_of-self
invariant_of-self g c = (c.self.invariant.0, c.take.ensures.left c.self.inside.layer c.self.invariant.1)
