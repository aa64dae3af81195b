use Rattle.std.proofs.Common.{◌≡◌, sym, subst, ◌∙◌}
use Rattle.std.specs.Io.KnownBytes.{Appends}
use Rattle.std.proofs.KnownBytes.{Appends-trans}
use Rattle.world_script.specs.Texts.{outcome_text}
use Rattle.world_script.proofs.Reported.{reported_more, reported_cut, on_err, on_ok}
use Rattle.world_script.proofs.progress.say_all.Goals as goal

pub returns-in_default : goal.returns-in_default
returns-in_default g c = (c.loop-outcome.outcome-index, c.loop-outcome.invariant)

pub returns-then-is_err : goal.returns-then-is_err
returns-then-is_err g c =
    let text : c.as_bytes.result.now ≡ outcome_text c.outcome-item.result = c.as_bytes.ensures.value ∙ c.in-Ok.ensures in
    reported_cut outcome_text c.args.outcomes.now c.loop-outcome.outcome-index c.outcome-item.result c.loop-outcome-test.true c.outcome-item.is
    (g.W.Write.contents c.args.writer.now) (g.W.Write.contents c.loop-outcome.writer) (g.W.Write.contents c.write_out.new.writer)
    c.as_bytes.result.now text c.loop-outcome.invariant
    (on_err c.write_out.result (sym c.is_err.ensures.value ∙ c.if-is_err.true) c.write_out.ensures.prefix)

pub loop-outcome-preserved : goal.loop-outcome-preserved
loop-outcome-preserved g c =
    let text : c.as_bytes.result.now ≡ outcome_text c.outcome-item.result = c.as_bytes.ensures.value ∙ c.in-Ok.ensures in
    let said : Appends (g.W.Write.contents c.loop-outcome.writer) (g.W.Write.contents c.write_out.new.writer) c.as_bytes.result.now =
    on_ok c.write_out.result (sym c.is_err.ensures.value ∙ c.if-is_err.false) c.write_out.ensures.all in
    subst (Appends (g.W.Write.contents c.args.writer.now) (g.W.Write.contents c.write_out.new.writer))
    (reported_more outcome_text c.args.outcomes.now c.loop-outcome.outcome-index c.outcome-item.result c.loop-outcome-test.true c.outcome-item.is)
    (Appends-trans (g.W.Write.contents c.args.writer.now) (g.W.Write.contents c.loop-outcome.writer)
    (g.W.Write.contents c.write_out.new.writer) _ _ c.loop-outcome.invariant
    (subst (Appends (g.W.Write.contents c.loop-outcome.writer) (g.W.Write.contents c.write_out.new.writer)) text said))
