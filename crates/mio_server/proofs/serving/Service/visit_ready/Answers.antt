use Rattle.std.proofs.Common.{◌≡◌, ◌<◌, ◌≤◌, ◌∙◌, IfSome, slice_get, length, refl, ap, arith}
use Rattle.mio_server.specs.declared.serving.Limits.{Limits}
use Rattle.mio_server.specs.Turns.{HasNoIdle, HasTurnIfMarked}
use Rattle.mio_server.proofs.Idle.{stays_moved, here_moved, below_next, at_index, each_index, shown_at}
use Rattle.mio_server.proofs.Marks.{turns_begin, turns_end, turns_go_on}
use Rattle.mio_server.proofs.serving.Service.visit_ready.Goals as goal

pub loop-at-preserved : goal.loop-at-preserved
loop-at-preserved g c =
    let before = c.loop-at.self.places.connections.items in
    let after = c.visit.new.self.places.connections.items in
    let s = c.args.self.now.schedule.scanned in
    let t = c.args.self.now.limits.idle in
    let ready = c.args.self.now.schedule.ready.items in
    let same : c.loop-at.self.limits.idle ≡ t = ap (λ (k : Limits). k.idle) c.loop-at.invariant.limits in
    let moved = stays_moved before after c.loop-at.self.schedule.scanned c.loop-at.self.limits.idle s t c.loop-at.invariant.scanned same c.in_ok-server.ensures.stays in
    let here = here_moved after c.index-place.result.now c.loop-at.self.schedule.scanned c.loop-at.self.limits.idle s t c.loop-at.invariant.scanned same
    c.in_ok-server.ensures.idle in
    let is = c.len-at-end.ensures in
    let swapped : length c.swap.new.y.items ≡ length ready = ap (λ v. length v.items) c.swap.ensures.y_after in
    let test = c.loop-at-test.true in
    let within : c.loop-at.at < length ready = omega (arith, is, swapped, test) in
    let there = at_index (λ i. HasNoIdle after i s t) c.loop-at.self.schedule.turns.items ready c.loop-at.at c.index-place.result.now
    (ap (λ v. v.items) c.loop-at.invariant.turns) within c.index-place.ensures here in
    record {
      noted = c.in_ok-server.ensures.noted;
      limits = c.in_ok-server.ensures.limits ∙ c.loop-at.invariant.limits;
      scanned = c.in_ok-server.ensures.scanned ∙ c.loop-at.invariant.scanned;
      turns = c.in_ok-server.ensures.turns ∙ c.loop-at.invariant.turns;
      stays = λ i h. moved i (c.loop-at.invariant.stays i h);
      marked = λ m i. turns_go_on
          (λ n. HasTurnIfMarked before c.loop-at.self.schedule.visits_all c.loop-at.self.schedule.ready.items n)
          (λ n. HasTurnIfMarked after c.visit.new.self.schedule.visits_all c.visit.new.self.schedule.ready.items n) ready c.loop-at.at c.index-place.result.now
          (at_index (λ x. x ≡ c.index-place.result.now) c.loop-at.self.schedule.turns.items ready c.loop-at.at c.index-place.result.now
          (ap (λ v. v.items) c.loop-at.invariant.turns) within c.index-place.ensures refl)
          c.in_ok-server.ensures.marked c.in_ok-server.ensures.marks_stay i (c.loop-at.invariant.marked m i);
      idle = λ k lt. below_next (λ n. IfSome (slice_get ready n) (λ i. HasNoIdle after i s t)) c.loop-at.at k lt there
          (λ lower. shown_at (λ i. HasNoIdle before i s t) (λ i. HasNoIdle after i s t) ready k moved (c.loop-at.invariant.idle k lower));
    }

pub returns-clause-idle : goal.returns-clause-idle
returns-clause-idle g c =
    let ready = c.args.self.now.schedule.ready.items in
    let is = c.len-at-end.ensures in
    let swapped : length c.swap.new.y.items ≡ length ready = ap (λ v. length v.items) c.swap.ensures.y_after in
    let end = c.loop-at-test.false in
    let le : length ready ≤ c.loop-at.at = omega (arith, is, swapped, end) in
    each_index (λ i. HasNoIdle c.loop-at.self.places.connections.items i c.args.self.now.schedule.scanned c.args.self.now.limits.idle) ready c.loop-at.at le
    c.loop-at.invariant.idle

pub loop-at-init : goal.loop-at-init
loop-at-init g c = record {
  noted = c.requires.noted;
  limits = refl;
  scanned = refl;
  turns = c.swap.ensures.y_after;
  stays = λ i h. h;
  marked = λ m i. turns_begin c.args.self.now.places.connections.items c.args.self.now.schedule.visits_all c.args.self.now.schedule.ready.items _ m i;
  idle = λ k lt. absurd (omega (arith, lt));
}

pub returns-clause-marked : goal.returns-clause-marked
returns-clause-marked g c = λ m i.
    let ready = c.args.self.now.schedule.ready.items in
    let is = c.len-at-end.ensures in
    let swapped : length c.swap.new.y.items ≡ length ready = ap (λ v. length v.items) c.swap.ensures.y_after in
    let end = c.loop-at-test.false in
    let le : length ready ≤ c.loop-at.at = omega (arith, is, swapped, end) in
    turns_end (λ n. HasTurnIfMarked c.loop-at.self.places.connections.items c.loop-at.self.schedule.visits_all c.loop-at.self.schedule.ready.items n) ready c.loop-at.at le i
    (c.loop-at.invariant.marked m i)
