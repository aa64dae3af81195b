use Rattle.std.proofs.Common.{subst, sym}
use Rattle.world_script.specs.declared.line.Line.{Line}
use Rattle.world_script.specs.Scripts.{LeadsFilled}
use Rattle.world_script.specs.Progress.{MakesMove, filling_of}
use Rattle.world_script.proofs.progress.WorldOpening.take.Goals as goal

pub returns-in-Step : goal.returns-in-Step
returns-in-Step g c =
    subst
    (λ (l : Line). MakesMove (LeadsFilled (filling_of c.args.self) l) c.args.number (g.W.Write.contents c.args.writer.now)
    c.make_first_step.result (g.W.Write.contents c.make_first_step.new.writer))
    (sym c.in-Step.is) c.make_first_step.ensures
