use Rattle.std.proofs.Common.{◌≡◌, ℕ, List, sym, subst, ◌∙◌}
use Rattle.version_store.specs.Preparing.{GivesAnswer}
use Rattle.version_store.proofs.preparing.Preparation.into_answer.Goals as goal

pub returns-then-are_same-clause-answer : goal.returns-then-are_same-clause-answer
returns-then-are_same-clause-answer c e h =
    let same : c.args.self.query.items ≡ c.args.query.now = sym c.deref.ensures.value ∙ c.are_same.ensures.0 c.if-are_same.true in
    subst (λ (q : List ℕ). GivesAnswer e c.args.scheme q c.into_whole.result) same (c.into_whole.ensures.answer e h)
