use Rattle.std.proofs.Common.{◌≡◌, true, sym, subst}
use Rattle.mio_server.specs.Turns.{HasBeenIdle, HasTurn}
use Rattle.mio_server.specs.Sessions.{AreNoted}
use Rattle.mio_server.proofs.Noted.{none_noted}
use Rattle.mio_server.proofs.Marks.{free_holds}
use Rattle.mio_server.proofs.serving.run_service.Goals as goal

pub run-requires : goal.run-requires
run-requires g c = record {
  noted = subst (λ n. AreNoted c.in-Ok.begun.service.places.connections.items c.opened.result.core n) (sym c.in-Ok.ensures.number)
      (none_noted c.in-Ok.begun.service.places.connections.items c.args.limits.most c.opened.result.core c.in-Ok.ensures.free);
  marked = λ i. free_holds (λ k. k.queued ≡ true → HasTurn c.in-Ok.begun.service.schedule.visits_all c.in-Ok.begun.service.schedule.ready.items i)
      c.in-Ok.begun.service.places.connections.items c.args.limits.most c.in-Ok.ensures.free i;
  idle = λ i. free_holds (λ k. HasBeenIdle k c.in-Ok.begun.service.schedule.scanned c.in-Ok.begun.service.limits.idle → ⊥)
      c.in-Ok.begun.service.places.connections.items c.args.limits.most c.in-Ok.ensures.free i;
}
