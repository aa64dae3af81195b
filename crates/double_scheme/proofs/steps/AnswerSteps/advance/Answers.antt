use Rattle.double_scheme.proofs.steps.AnswerSteps.advance.Goals as goal

pub returns-in-Column-clause-so_far : goal.returns-in-Column-clause-so_far
returns-in-Column-clause-so_far g c = c.make_column.ensures.so_far (g.S.DigitStore.digits c.args.server_hint.now)
