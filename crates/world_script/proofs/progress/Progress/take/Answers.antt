use Rattle.std.proofs.Common.{refl, subst, sym}
use Rattle.std.proofs.KnownBytes.{Appends-nil}
use Rattle.world_script.specs.declared.line.Line.{Line}
use Rattle.world_script.specs.declared.progress.Progress.{Progress}
use Rattle.world_script.specs.declared.progress.Progress.TheVariants as progress
use Rattle.world_script.specs.Scripts.{ScriptPlace, Running, Leads, Bad}
use Rattle.world_script.specs.Progress.{IsAt, MakesMove, running_world}
use Rattle.world_script.proofs.Stepping.{no_step}
use Rattle.world_script.proofs.progress.Progress.take.Goals as goal

pub returns-in-Step : goal.returns-in-Step
returns-in-Step g c = λ place at.
    let a : IsAt (progress.Running c.in-Running.world) place = subst (λ (s : Progress). IsAt s place) c.in-Running.is at in
    subst
    (λ (p : ScriptPlace). MakesMove (Leads p c.args.line) c.args.number (g.W.Write.contents c.args.writer.now) c.make_step.result
    (g.W.Write.contents c.make_step.new.writer))
    (sym a.3)
    (subst
    (λ (l : Line). MakesMove (Leads (Running (running_world c.in-Running.world a.0)) l) c.args.number (g.W.Write.contents c.args.writer.now)
    c.make_step.result (g.W.Write.contents c.make_step.new.writer))
    (sym c.in-Step.is) (c.make_step.ensures a.0 c.args.number a.1 a.2))

pub returns : goal.returns
returns g c = λ place at.
    let a : IsAt (progress.Running c.in-Running.world) place = subst (λ (s : Progress). IsAt s place) c.in-Running.is at in (
      refl,
      subst (λ (p : ScriptPlace). Leads p c.args.line Bad) (sym a.3) (no_step (running_world c.in-Running.world a.0) c.args.line c.in_default.not-Step),
      Appends-nil (g.W.Write.contents c.args.writer.now),
    )
