use Rattle.std.proofs.Common.{◌∙◌}
use Rattle.mio_server.proofs.Marks.{comes_on}
use Rattle.mio_server.proofs.serving.Service.accept_all.Goals as goal
use Rattle.mio_server.proofs.serving.Service.accept_all.Goals.{in-Ok, in-Err-2+else-has_no_descriptor}

pub loop-preserved : goal.loop-preserved
loop-preserved g c = elim c.match-accept_next.branch [
  | in-Ok w ↦
      let begin = c.args.self.now.places.connections.items in
      let l = c.loop.self in
      let new = w.open.new.self in
      rw (w.self-is, w.server-is) (record {
        noted = w.open.ensures.noted;
        turns = λ i h. w.open.ensures.turns i (c.loop.invariant.turns i h);
        comes = λ i. comes_on begin l.places.connections.items new.places.connections.items l.schedule.visits_all new.schedule.visits_all l.schedule.ready.items new.schedule.ready.items i
            (w.open.ensures.turns i) (c.loop.invariant.comes i) (w.open.ensures.comes i);
        limits = w.open.ensures.limits ∙ c.loop.invariant.limits;
        scanned = w.open.ensures.scanned ∙ c.loop.invariant.scanned;
      })
  | in-Err-2+else-has_no_descriptor w ↦ rw (w.self-is, w.server-is) (record {
    noted = c.loop.invariant.noted;
    turns = c.loop.invariant.turns;
    comes = c.loop.invariant.comes;
    limits = c.loop.invariant.limits;
    scanned = c.loop.invariant.scanned;
  })
]
