use Rattle.std.proofs.Common.{◌≡◌, ◌∙◌, ap, sym, subst, Bool, ℕ, true, false}
use Rattle.digit_pack.specs.Layout.{Shape}
use Rattle.double_scheme.specs.Steps.{IsMadeSoFar, IsWholeAt}
use Rattle.double_scheme.specs.declared.steps.AnswerSteps.{AnswerSteps}
use Rattle.pir_schemes.specs.declared.scheme.Scheme.{Scheme}
use Rattle.pir_schemes.specs.Plans.{digits_at, second_public}
use Rattle.pir_schemes.specs.Retrievals.{query_count, server_hint}
use Rattle.version_store.specs.Editions.{version_shape}
use Rattle.version_store.proofs.Prepared.{double_begun}
use Rattle.version_store.proofs.preparing.Preparation.new.Goals as goal

pub returns-in_ok-steps-in-Double-clause-begun : goal.returns-in_ok-steps-in-Double-clause-begun
returns-in_ok-steps-in-Double-clause-begun c e shape dimension =
    double_begun e c.args.layout.now c.args.dimension c.args.query.items c.in_ok-steps-in-Double.steps shape dimension
    (c.requires.query ∙ ap (λ (s : Scheme). query_count s c.args.layout.now) c.in-Double.is) c.in_ok-steps-in-Double.ensures.so_far c.in_ok-steps-in-Double.ensures.begun
