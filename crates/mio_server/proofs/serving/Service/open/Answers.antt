use Rattle.std.proofs.Common.{◌≡◌, ◌<◌, ◌+◌, None, Some, Result, Ok, Err, OnOk, true, false, sym, ap, subst, ◌∙◌, arith}
use Rattle.std.specs.Result.{is_err}
use Rattle.server_core.specs.Cores.{session_of}
use Rattle.connection_table.specs.Holding.{held_by}
use Rattle.connection_table.specs.declared.connection.ServedConnection.{ServedConnection}
use Rattle.server_core.specs.Sessions.{new_session}
use Rattle.mio_server.specs.declared.serving.schedule.Schedule.{Schedule}
use Rattle.mio_server.specs.Sessions.{AreNoted, PutsOrEvicts}
use Rattle.mio_server.proofs.Noted.{opened_noted, given_noted, settled_noted}
use Rattle.mio_server.proofs.Marks.{settled_comes, turn_moved}
use Rattle.mio_server.proofs.serving.Service.open.Goals as goal

on_ok : {T E P : Type 0} (r : Result T E) → is_err r ≡ false → OnOk r P → P
on_ok (Ok x) e h = h
on_ok (Err x) e h = cc

pub returns-clause-noted : goal.returns-clause-noted
returns-clause-noted g c =
    let does = on_ok c.open_session.result (sym c.is_err-else-is_err.ensures.value ∙ c.if-is_err-2.false) c.open_session.ensures.opened in
    let before = c.args.self.now.places.connections.items in
    let mid = c.open_session.new.self.core in
    let next = c.args.self.now.next_id in
    let made : ServedConnection = record {
      stream = c.register-registered.new.source;
      address = c.args.address;
      peer = c.octets_of-peer.result;
      id = next;
      state = c.new.result;
      readable = true;
      writable = true;
      lingers = None;
      held = 0;
      queued = true;
      watch = c.opened-connection.result.watch;
    } in
    let settles = subst (λ (k : ServedConnection). PutsOrEvicts c.args.place k before mid
    c.put_or_evict.new.self.places.connections.items c.put_or_evict.new.server.core) c.opened-connection.ensures c.put_or_evict.ensures.settles in
    let on = opened_noted before c.args.server.now.core mid next c.requires.noted does.3 in
    let low : next < next + 1 = omega arith in
    let is : 0 ≡ held_by (session_of mid.sessions next) c.new.result =
    sym (ap (λ s. held_by s c.new.result) does.1 ∙ ap (held_by (Some new_session)) c.new.ensures) in
    subst (λ n. AreNoted c.put_or_evict.new.self.places.connections.items c.put_or_evict.new.server.core n) (sym (c.put_or_evict.ensures.number ∙ c.in-Some.ensures.1))
    (settled_noted c.args.place made before mid c.put_or_evict.new.self.places.connections.items c.put_or_evict.new.server.core (next + 1) settles
    (given_noted before c.args.place made mid (next + 1) c.requires.within on.0 on.1 low is))

pub returns-clause-turns : goal.returns-clause-turns
returns-clause-turns g c = λ i h. turn_moved c.push_ready.new.self.visits_all c.put_or_evict.new.self.schedule.visits_all c.push_ready.new.self.ready.items c.put_or_evict.new.self.schedule.ready.items i
    (ap (λ (s : Schedule). s.visits_all) c.put_or_evict.ensures.schedule) (ap (λ (s : Schedule). s.ready.items) c.put_or_evict.ensures.schedule) (c.push_ready.ensures.others i h)

pub returns-clause-comes : goal.returns-clause-comes
returns-clause-comes g c =
    let mid = c.open_session.new.self.core in
    let made = c.opened-connection.result in
    let after = c.put_or_evict.new.self.places.connections.items in
    settled_comes c.args.place made c.args.self.now.places.connections.items mid after c.put_or_evict.new.server.core c.put_or_evict.new.self.schedule.visits_all
    c.put_or_evict.new.self.schedule.ready.items c.requires.within (ap (λ (k : ServedConnection). k.queued) c.opened-connection.ensures)
    (turn_moved c.push_ready.new.self.visits_all c.put_or_evict.new.self.schedule.visits_all c.push_ready.new.self.ready.items c.put_or_evict.new.self.schedule.ready.items c.args.place
    (ap (λ (s : Schedule). s.visits_all) c.put_or_evict.ensures.schedule) (ap (λ (s : Schedule). s.ready.items) c.put_or_evict.ensures.schedule) c.push_ready.ensures.noted) c.put_or_evict.ensures.settles
