use Rattle.std.proofs.Common.{ap, refl, sym, subst, ◌∙◌}
use Rattle.pir_schemes.specs.declared.scheme.Scheme.{Scheme}
use Rattle.pir_schemes.specs.Retrievals.{answer_words}
use Rattle.version_store.specs.Preparing.{IsMakingFor}
use Rattle.version_store.proofs.Prepared.{simple_whole, double_whole}
use Rattle.version_store.proofs.preparing.Preparation.into_whole.Goals as goal

pub returns-then-made-len-clause-answer : goal.returns-then-made-len-clause-answer
returns-then-made-len-clause-answer c e h =
    simple_whole e c.args.self.query.items c.args.self.query.items c.in-Simple-Simple.made c.in-Simple-Simple.out
    (subst (IsMakingFor e c.args.self.query.items) c.in-Simple-Simple.is-1 h) (c.if-made-len.true ∙ c.len.ensures ∙ c.in-Simple-Simple.out.ok.0) refl
    ∙ ap (λ (s : Scheme). answer_words s e.plan e.records c.args.self.query.items) (sym c.in-Simple-Simple.is-0)

pub returns-then-whole-clause-answer : goal.returns-then-whole-clause-answer
returns-then-whole-clause-answer c e h =
    double_whole e c.args.self.query.items c.args.self.query.items c.in-Double-Double.whole c.in-Double-Double.steps c.into_words.result.items
    (subst (IsMakingFor e c.args.self.query.items) c.in-Double-Double.is-1 h) c.if-whole.true refl c.into_words.ensures
    ∙ ap (λ (s : Scheme). answer_words s e.plan e.records c.args.self.query.items) (sym c.in-Double-Double.is-0)
