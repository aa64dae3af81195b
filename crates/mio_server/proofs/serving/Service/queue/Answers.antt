use Rattle.std.proofs.Common.{List, Option, sym, ap, subst, ◌∙◌}
use Rattle.connection_table.specs.declared.connection.ServedConnection.{ServedConnection}
use Rattle.connection_table.specs.Places.{connection_at}
use Rattle.mio_server.specs.Turns.{HasTurn, HasTurnIfMarked}
use Rattle.mio_server.proofs.Marks.{anyhow, note_marked}
use Rattle.mio_server.proofs.serving.Service.queue.Goals as goal

pub returns-then-note-clause-marked : goal.returns-then-note-clause-marked
returns-then-note-clause-marked c = λ i h.
    let places = c.args.self.now.places.connections.items in
    let all = c.push_ready.new.self.visits_all in
    let ready = c.push_ready.new.self.ready.items in
    let moved = note_marked places c.args.place c.args.readable c.args.writable c.args.self.now.schedule.visits_all all c.args.self.now.schedule.ready.items ready
    c.push_ready.ensures.others (anyhow (connection_at places c.args.place) (HasTurn all ready c.args.place) c.push_ready.ensures.noted) i h in
    subst (λ (k : List (Option ServedConnection)). HasTurnIfMarked k all ready i)
    (sym c.note.ensures.places) moved
