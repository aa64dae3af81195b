use Rattle.std.proofs.Common.{sym, ap, subst}
use Rattle.connection_table.specs.declared.table.ConnectionTable.{ConnectionTable}
use Rattle.mio_server.specs.declared.serving.Limits.{Limits}
use Rattle.mio_server.specs.Turns.{HasNoIdle}
use Rattle.mio_server.specs.Sessions.{AreNoted}
use Rattle.mio_server.proofs.Idle.{here_moved}
use Rattle.mio_server.proofs.Marks.{marks_stay}
use Rattle.mio_server.proofs.serving.Service.run.Goals as goal

pub loop-preserved : goal.loop-preserved
loop-preserved g c =
    let r = c.round.new.self in
    let s = c.end_round.new.self in
    let n = c.in_ok-server.ensures in
    let e = c.end_round.ensures in
    let core = c.in_ok-server.server.core in
    record {
      noted = subst (λ k. AreNoted s.places.connections.items core k) (sym e.number)
          (subst (λ (p : ConnectionTable). AreNoted p.connections.items core r.next_id) (sym e.places) n.noted);
      marked = marks_stay r.places.connections.items s.places.connections.items r.schedule.visits_all s.schedule.visits_all r.schedule.ready.items s.schedule.ready.items
          (ap (λ (p : ConnectionTable). p.connections.items) e.places) e.all (ap (λ v. v.items) e.ready) n.marked;
      idle = λ i. here_moved s.places.connections.items i r.schedule.scanned r.limits.idle s.schedule.scanned s.limits.idle (sym e.scanned)
          (sym (ap (λ (k : Limits). k.idle) e.limits))
          (subst (λ (p : ConnectionTable). HasNoIdle p.connections.items i r.schedule.scanned r.limits.idle) (sym e.places) (n.idle i));
    }
