use Rattle.std.proofs.Common.{◌≡◌, ◌≤◌, List, Option, None, Some, IfSome, false, sym, subst, ◌∙◌}
use Rattle.connection_table.specs.declared.connection.ServedConnection.{ServedConnection}
use Rattle.mio_server.specs.Turns.{HasBeenIdle}
use Rattle.mio_server.specs.declared.serving.Service.{Service}
use Rattle.connection_table.specs.Places.{all_held, connection_at}
use Rattle.mio_server.specs.Sessions.{AreNoted, SessionsStayOrGo}
use Rattle.mio_server.proofs.Idle.{concluded_holds, stays_idle}
use Rattle.mio_server.proofs.Leaving.{is_within}
use Rattle.mio_server.proofs.Noted.{freed_noted}
use Rattle.mio_server.proofs.Concluding.{concluded_others, concluded_sessions, concluded_noted}
use Rattle.mio_server.proofs.serving.Service.take_turn_at.Goals as goal

-- no more is held than is allowed
is_bounded : (s : Service) → all_held s.places.connections.items ≤ s.limits.memory
is_bounded s = subst (λ n. n ≤ s.limits.memory) s.places.is_sum (subst (λ n. s.places.held ≤ n) s.limited s.places.within)

-- what is there is not none
is_there : (o : Option ServedConnection) (k : ServedConnection) → Some k ≡ o → o ≡ None → ⊥
is_there o k there none = let no : Some k ≡ None = there ∙ none in cc

pub returns-in_default-clause-noted : goal.returns-in_default-clause-noted
returns-in_default-clause-noted g c = subst (λ (k : List (Option ServedConnection)). AreNoted k c.args.server.core c.args.self.now.next_id) (sym c.in_default.ensures.places)
    (freed_noted c.args.self.now.places.connections.items c.args.place c.args.server.core c.args.self.now.next_id c.requires.noted)

pub returns-clause-noted : goal.returns-clause-noted
returns-clause-noted g c =
    subst (λ n. AreNoted c.finish_turn-more.new.self.places.connections.items c.finish_turn-more.new.server.core n) (sym c.finish_turn-more.ensures.number)
    (concluded_noted c.end_turn-outcome.result c.args.place c.in-Some.connection c.end_turn-outcome.new.self c.args.self.now.places.connections.items
    c.take.new.self.connections.items c.args.server.core c.in-Ok-taken.both.0.core c.finish_turn-more.new.self.places.connections.items
    c.finish_turn-more.new.server.core c.in-Some.ensures.places c.finish_turn-more.ensures.goes_on c.finish_turn-more.ensures.over
    (c.end_turn-outcome.ensures.id ∙ c.in-Ok-taken.ensures.id) c.in-Ok-taken.ensures.others c.args.self.now.next_id
    (is_within c.args.self.now.places.connections.items c.args.place c.in-Some.connection (sym c.in-Some.ensures.taken))
    (sym c.in-Some.ensures.taken) c.requires.noted c.end_turn-outcome.ensures.held)

pub returns-clause-others : goal.returns-clause-others
returns-clause-others g c =
    concluded_others c.end_turn-outcome.result c.args.place c.in-Some.connection c.end_turn-outcome.new.self c.args.self.now.places.connections.items
    c.take.new.self.connections.items c.args.server.core c.in-Ok-taken.both.0.core c.finish_turn-more.new.self.places.connections.items
    c.finish_turn-more.new.server.core c.in-Some.ensures.places c.finish_turn-more.ensures.goes_on c.finish_turn-more.ensures.over
    (c.end_turn-outcome.ensures.id ∙ c.in-Ok-taken.ensures.id) c.in-Ok-taken.ensures.others

pub returns-clause-sessions : goal.returns-clause-sessions
returns-clause-sessions g c =
    subst (λ (o : Option ServedConnection). IfSome o (λ k. SessionsStayOrGo k.id c.args.server.core c.finish_turn-more.new.server.core)) c.in-Some.ensures.taken
    (concluded_sessions c.end_turn-outcome.result c.args.place c.in-Some.connection c.end_turn-outcome.new.self c.args.self.now.places.connections.items
    c.take.new.self.connections.items c.args.server.core c.in-Ok-taken.both.0.core c.finish_turn-more.new.self.places.connections.items
    c.finish_turn-more.new.server.core c.in-Some.ensures.places c.finish_turn-more.ensures.goes_on c.finish_turn-more.ensures.over
    (c.end_turn-outcome.ensures.id ∙ c.in-Ok-taken.ensures.id) c.in-Ok-taken.ensures.others)

pub returns-clause-idle : goal.returns-clause-idle
returns-clause-idle g c =
    concluded_holds (λ k. HasBeenIdle k c.args.self.now.schedule.scanned c.args.self.now.limits.idle → ⊥) c.end_turn-outcome.result c.args.place
    c.end_turn-outcome.new.self c.args.self.now.places.connections.items c.take.new.self.connections.items c.in-Ok-taken.both.0.core
    c.finish_turn-more.new.self.places.connections.items c.finish_turn-more.new.server.core c.in-Some.ensures.places
    (is_within c.args.self.now.places.connections.items c.args.place c.in-Some.connection (sym c.in-Some.ensures.taken))
    c.finish_turn-more.ensures.goes_on c.finish_turn-more.ensures.over
    (λ on was. c.end_turn-outcome.ensures.active on (stays_idle c.end_turn-outcome.new.self c.args.self.now.schedule.scanned c.in-Ok.now
    c.args.self.now.limits.idle c.in-Ok.ensures was))

pub returns-clause-unmarked : goal.returns-clause-unmarked
returns-clause-unmarked g c =
    concluded_holds (λ k. k.queued ≡ false) c.end_turn-outcome.result c.args.place c.end_turn-outcome.new.self c.args.self.now.places.connections.items
    c.take.new.self.connections.items c.in-Ok-taken.both.0.core c.finish_turn-more.new.self.places.connections.items c.finish_turn-more.new.server.core
    c.in-Some.ensures.places (is_within c.args.self.now.places.connections.items c.args.place c.in-Some.connection (sym c.in-Some.ensures.taken))
    c.finish_turn-more.ensures.goes_on c.finish_turn-more.ensures.over (λ _. c.end_turn-outcome.ensures.queued ∙ c.in-Ok-taken.ensures.queued)

pub returns-clause-limits : goal.returns-clause-limits
returns-clause-limits g c = c.finish_turn-more.ensures.limits

pub returns-clause-schedule : goal.returns-clause-schedule
returns-clause-schedule g c = c.finish_turn-more.ensures.schedule

pub returns-clause-bounded : goal.returns-clause-bounded
returns-clause-bounded g c = is_bounded c.finish_turn-more.new.self

pub returns-clause-free : goal.returns-clause-free
returns-clause-free g c = λ none. absurd (is_there (connection_at c.args.self.now.places.connections.items c.args.place) c.in-Some.connection
    c.in-Some.ensures.taken none)
