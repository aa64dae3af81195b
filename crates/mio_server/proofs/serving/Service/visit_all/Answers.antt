use Rattle.std.proofs.Common.{◌≡◌, ◌≤◌, ◌∙◌, [], length, false, ap, arith}
use Rattle.mio_server.specs.declared.serving.Limits.{Limits}
use Rattle.mio_server.specs.Turns.{HasNoIdle, HasTurnIfMarked}
use Rattle.mio_server.proofs.Idle.{stays_moved, here_moved, below_next, each_place}
use Rattle.mio_server.proofs.Marks.{all_marked}
use Rattle.mio_server.proofs.serving.Service.visit_all.Goals as goal

pub loop-place-preserved : goal.loop-place-preserved
loop-place-preserved g c =
    let before = c.loop-place.self.places.connections.items in
    let after = c.visit.new.self.places.connections.items in
    let s = c.args.self.now.schedule.scanned in
    let t = c.args.self.now.limits.idle in
    let same : c.loop-place.self.limits.idle ≡ t = ap (λ (k : Limits). k.idle) c.loop-place.invariant.limits in
    let moved = stays_moved before after c.loop-place.self.schedule.scanned c.loop-place.self.limits.idle s t c.loop-place.invariant.scanned same c.in_ok-server.ensures.stays in
    let here = here_moved after c.loop-place.place c.loop-place.self.schedule.scanned c.loop-place.self.limits.idle s t c.loop-place.invariant.scanned same
    c.in_ok-server.ensures.idle in
    record {
      noted = c.in_ok-server.ensures.noted;
      limits = c.in_ok-server.ensures.limits ∙ c.loop-place.invariant.limits;
      scanned = c.in_ok-server.ensures.scanned ∙ c.loop-place.invariant.scanned;
      stays = λ i h. moved i (c.loop-place.invariant.stays i h);
      marks_stay = λ i h. c.in_ok-server.ensures.marks_stay i (c.loop-place.invariant.marks_stay i h);
      marked = λ i lt. below_next (λ k. HasTurnIfMarked after c.visit.new.self.schedule.visits_all c.visit.new.self.schedule.ready.items k) c.loop-place.place i lt
          c.in_ok-server.ensures.marked (λ lower. c.in_ok-server.ensures.marks_stay i (c.loop-place.invariant.marked i lower));
      idle = λ i lt. below_next (λ k. HasNoIdle after k s t) c.loop-place.place i lt here (λ lower. moved i (c.loop-place.invariant.idle i lower));
    }

pub returns-clause-idle : goal.returns-clause-idle
returns-clause-idle g c = λ all.
    let is = c.len-place-end.ensures in
    let end = c.loop-place-test.false in
    let le : length c.args.self.now.places.connections.items ≤ c.loop-place.place = omega (arith, is, end) in
    each_place c.args.self.now.places.connections.items c.loop-place.self.places.connections.items c.loop-place.place
    c.args.self.now.schedule.scanned c.args.self.now.limits.idle le c.loop-place.invariant.stays c.loop-place.invariant.idle

pub returns-clause-marked : goal.returns-clause-marked
returns-clause-marked g c = λ all.
    let is = c.len-place-end.ensures in
    let end = c.loop-place-test.false in
    let le : length c.args.self.now.places.connections.items ≤ c.loop-place.place = omega (arith, is, end) in
    all_marked c.args.self.now.places.connections.items c.loop-place.self.places.connections.items c.loop-place.place false c.loop-place.self.schedule.visits_all
    [] c.loop-place.self.schedule.ready.items le c.loop-place.invariant.marks_stay c.loop-place.invariant.marked
