use Rattle.double_scheme.proofs.steps.AnswerSteps.make_parts.Goals as goal

pub returns-clause-so_far : goal.returns-clause-so_far
returns-clause-so_far g c digits a2 cols parts =
    c.end_parts.ensures.so_far digits a2 cols parts.first_is parts.so_far
