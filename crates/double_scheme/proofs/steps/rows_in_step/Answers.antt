use Rattle.std.proofs.Common.{inr, refl}
use Rattle.double_scheme.proofs.StepLemmas.{few_digits}
use Rattle.double_scheme.proofs.steps.rows_in_step.Goals as goal

pub returns-clause-bounded : goal.returns-clause-bounded
returns-clause-bounded c = inr (few_digits c.args.cols c.args.left c.max.result c.args.most_digits _ c.min.result c.max.ensures refl c.min.ensures)
