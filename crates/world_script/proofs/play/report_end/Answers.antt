use Rattle.std.proofs.Common.{Err, subst}
use Rattle.world_script.specs.declared.stop.Stop.{Stop}
use Rattle.world_script.specs.Progress.{SaysText, last_text}
use Rattle.world_script.proofs.Ending.{early_done, early_memory}
use Rattle.world_script.proofs.play.report_end.Goals as goal

pub returns-in-Ok-clause-printed : goal.returns-in-Ok-clause-printed
returns-in-Ok-clause-printed g c =
    early_done c.args.stop (g.W.Write.contents c.args.writer.now) (g.W.Write.contents c.say_end.new.writer) c.requires c.in-Ok.ensures

pub returns-in-Err-Memory-clause-printed : goal.returns-in-Err-Memory-clause-printed
returns-in-Err-Memory-clause-printed g c =
    early_memory c.args.stop (g.W.Write.contents c.args.writer.now) (g.W.Write.contents c.say_end.new.writer) (g.W.Write.contents c.report_memory.new.writer)
    c.report_memory.result c.requires
    (subst (λ (e : Stop). SaysText (last_text c.args.stop) (g.W.Write.contents c.args.writer.now) (Err e) (g.W.Write.contents c.say_end.new.writer))
    c.in-Err-Memory.field-0-is c.in-Err-Memory.ensures) c.report_memory.ensures.printed
