use Rattle.double_scheme.proofs.StepLemmas.{whole_words}
use Rattle.double_scheme.proofs.steps.AnswerSteps.into_words.Goals as goal

pub returns : goal.returns
returns c d h a2 query made rows whole = whole_words c.args.self.layout d h a2 query c.args.self made rows whole
