use Rattle.std.proofs.Common.{inr, Option, refl, sym, subst, ◌∙◌}
use Rattle.std.proofs.KnownBytes.{Appends-nil}
use Rattle.world_script.specs.declared.line.Line.{Line}
use Rattle.world_script.specs.Scripts.{Bad, LeadsRead}
use Rattle.world_script.proofs.play.play_line.Goals as goal

pub returns-in-Ok-None : goal.returns-in-Ok-None
returns-in-Ok-None g c = λ place at. (
  refl,
  inr (
    sym c.is_silent.ensures ∙ c.if-is_silent.false,
    subst (λ (l : Option Line). LeadsRead place l Bad) (sym c.in-Ok-None.field-0-is ∙ c.in-Ok-None.ensures) refl,
  ),
  Appends-nil (g.W.Write.contents c.args.writer.now),
)
