use Rattle.std.proofs.Common.{refl, sym, ◌∙◌}
use Rattle.pir_world.proofs.Sending.{when_ok, ends_more, sessions_more}
use Rattle.pir_world.proofs.world.open_ends.Goals as goal

pub loop-id-preserved : goal.loop-id-preserved
loop-id-preserved g c =
    let opened = when_ok c.open_session.result _ (sym c.if-is_err.ensures.value) c.open_session.ensures.opened in
    let pushed = c.push.ensures.items in
    let more = sessions_more c.loop-id.server.sessions c.open_session.new.self.sessions c.loop-id.id c.loop-id.invariant.1 c.loop-id.invariant.2 opened
    c.open_session.ensures.others in
    let ends = ends_more c.args.wide c.args.seeds.now c.loop-id.ends.items c.push.new.self.items c.loop-id.id c.new.result (c.loop-id-test.true) c.loop-id.invariant.0
    (pushed ∙ rw c.if-is_err-2.ensures.negation refl) c.new.ensures in
    (ends, more.0, more.1, c.open_session.ensures.store ∙ c.loop-id.invariant.3)
