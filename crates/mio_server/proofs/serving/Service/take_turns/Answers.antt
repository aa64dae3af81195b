use Rattle.std.proofs.Common.{◌≡◌, ◌∙◌, Result, Ok, Err, OnOk, sym, ap, subst}
use Rattle.mio_server.specs.declared.serving.Limits.{Limits}
use Rattle.mio_server.specs.declared.serving.Service.{Service}
use Rattle.mio_server.specs.Turns.{AreMarkedNoted, HasNoIdle}
use Rattle.mio_server.proofs.Idle.{stays_moved, here_moved, shown_at, turn_taken}
use Rattle.mio_server.proofs.Marks.{either_way}
use Rattle.mio_server.proofs.serving.Service.take_turns.Goals as goal

-- what follows of two facts on success
both_ok : {T E A B Q : Type 0} (r : Result T E) → OnOk r A → OnOk r B → (A → B → Q) → OnOk r Q
both_ok (Ok x) a b h = h a b
both_ok (Err e) a b h = tt

pub returns-clause-idle : goal.returns-clause-idle
returns-clause-idle g c =
    let s = c.args.self.now.schedule.scanned in
    let t = c.args.self.now.limits.idle in
    let mid = c.visit_all.new.self in
    let new = c.visit_ready.new.self.places.connections.items in
    let same : mid.limits.idle ≡ t = ap (λ (k : Limits). k.idle) c.in_ok-server.ensures.limits in
    both_ok c.visit_ready.result c.visit_ready.ensures.idle c.visit_ready.ensures.stays (λ noted stays.
    turn_taken c.args.self.now.schedule.visits_all c.args.self.now.schedule.ready.items mid.schedule.ready.items (λ i. HasNoIdle mid.places.connections.items i s t) (λ i. HasNoIdle new i s t)
    c.in_ok-server.ensures.idle
    (stays_moved mid.places.connections.items new mid.schedule.scanned mid.limits.idle s t c.in_ok-server.ensures.scanned same stays)
    (λ all. ap (λ (k : Service). k.schedule.ready.items) (c.in_ok-server.ensures.none all))
    (λ k. shown_at (λ i. HasNoIdle new i mid.schedule.scanned mid.limits.idle) (λ i. HasNoIdle new i s t) mid.schedule.ready.items k
    (λ i h. here_moved new i mid.schedule.scanned mid.limits.idle s t c.in_ok-server.ensures.scanned same h) (noted k)))

pub returns-clause-limits : goal.returns-clause-limits
returns-clause-limits g c = both_ok c.visit_ready.result c.visit_ready.ensures.limits c.visit_ready.ensures.limits (λ e f. e ∙ c.in_ok-server.ensures.limits)

pub returns-clause-scanned : goal.returns-clause-scanned
returns-clause-scanned g c = both_ok c.visit_ready.result c.visit_ready.ensures.scanned c.visit_ready.ensures.scanned (λ e f. e ∙ c.in_ok-server.ensures.scanned)

pub returns-clause-stays : goal.returns-clause-stays
returns-clause-stays g c =
    let s = c.args.self.now.schedule.scanned in
    let t = c.args.self.now.limits.idle in
    let old = c.args.self.now in
    let mid = c.visit_all.new.self in
    let new = c.visit_ready.new.self.places.connections.items in
    let same : mid.limits.idle ≡ t = ap (λ (k : Limits). k.idle) c.in_ok-server.ensures.limits in
    both_ok c.visit_ready.result c.visit_ready.ensures.stays c.visit_ready.ensures.stays (λ stays _. λ i h.
    stays_moved mid.places.connections.items new mid.schedule.scanned mid.limits.idle s t c.in_ok-server.ensures.scanned same stays i
    (either_way old.schedule.visits_all (HasNoIdle old.places.connections.items i s t) (HasNoIdle mid.places.connections.items i s t)
    (λ all. c.in_ok-server.ensures.idle all i)
    (λ some before. subst (λ (k : Service). HasNoIdle k.places.connections.items i s t) (sym (c.in_ok-server.ensures.none some)) before) h))

pub returns-clause-marked : goal.returns-clause-marked
returns-clause-marked g c = λ m.
    let old = c.args.self.now in
    let mid = c.visit_all.new.self in
    c.visit_ready.ensures.marked (either_way old.schedule.visits_all (AreMarkedNoted old.places.connections.items old.schedule.visits_all old.schedule.ready.items)
    (AreMarkedNoted mid.places.connections.items mid.schedule.visits_all mid.schedule.ready.items) c.in_ok-server.ensures.marked
    (λ some before. subst (λ (k : Service). AreMarkedNoted k.places.connections.items k.schedule.visits_all k.schedule.ready.items) (sym (c.in_ok-server.ensures.none some)) before) m)
