use Rattle.version_store.proofs.edition.Edition.begin_answer.Goals as goal

pub invariant_of-self : goal.invariant_of-self
invariant_of-self g c = (c.self.invariant.0, c.clear.ensures c.self.inside.layer)
