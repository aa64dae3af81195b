use Rattle.std.proofs.Common.{◌∙◌, sym, ap, subst}
use Rattle.connection_table.specs.declared.table.ConnectionTable.{ConnectionTable}
use Rattle.mio_server.specs.declared.serving.schedule.Schedule.{Schedule}
use Rattle.mio_server.specs.Turns.{HasTurnIfMarked, OnlyFlagsChange}
use Rattle.mio_server.specs.Sessions.{AreNoted}
use Rattle.mio_server.proofs.Flags.{flags_noted}
use Rattle.mio_server.proofs.Idle.{flags_active, visit_stays}
use Rattle.mio_server.proofs.Noted.{same_noted}
use Rattle.mio_server.proofs.Marks.{marked_moved, turn_marked, turn_marks_stay}
use Rattle.mio_server.proofs.serving.Service.visit.Goals as goal

pub returns : goal.returns
returns g c = record {
  noted =
      let before = c.take_turn_at.new.self.places.connections.items in
      let after = c.queue_again.new.self.places.connections.items in
      let flags = subst (λ (p : ConnectionTable). OnlyFlagsChange p.connections.items after) c.note_next_at.ensures.places c.queue_again.ensures.flags in
      subst (λ n. AreNoted after c.in_ok-server.server.core n) (sym (c.queue_again.ensures.number ∙ c.note_next_at.ensures.number))
      (flags_noted before after c.in_ok-server.server.core c.take_turn_at.new.self.next_id flags c.in_ok-server.ensures.noted);
  idle =
      let before = c.take_turn_at.new.self.places.connections.items in
      let after = c.queue_again.new.self.places.connections.items in
      let flags = subst (λ (p : ConnectionTable). OnlyFlagsChange p.connections.items after) c.note_next_at.ensures.places c.queue_again.ensures.flags in
      flags_active before after c.args.self.now.schedule.scanned c.args.self.now.limits.idle c.args.place flags c.in_ok-server.ensures.idle;
  stays =
      let before = c.take_turn_at.new.self.places.connections.items in
      let after = c.queue_again.new.self.places.connections.items in
      let flags = subst (λ (p : ConnectionTable). OnlyFlagsChange p.connections.items after) c.note_next_at.ensures.places c.queue_again.ensures.flags in
      visit_stays c.args.self.now.places.connections.items before after c.args.place c.args.self.now.schedule.scanned c.args.self.now.limits.idle
      c.in_ok-server.ensures.others c.in_ok-server.ensures.idle flags;
  limits = c.queue_again.ensures.limits ∙ (c.note_next_at.ensures.limits ∙ c.in_ok-server.ensures.limits);
  scanned = c.queue_again.ensures.scanned ∙ (c.note_next_at.ensures.scanned ∙ ap (λ (s : Schedule). s.scanned) c.in_ok-server.ensures.schedule);
  turns = c.queue_again.ensures.turns ∙ (c.note_next_at.ensures.turns ∙ ap (λ (s : Schedule). s.turns) c.in_ok-server.ensures.schedule);
  marked =
      let mid = c.take_turn_at.new.self.places.connections.items in
      let all = c.note_next_at.new.self.schedule.visits_all in
      let ready = c.note_next_at.new.self.schedule.ready.items in
      c.queue_again.ensures.marked c.args.place (subst (λ (p : ConnectionTable). HasTurnIfMarked p.connections.items all ready c.args.place)
      (sym c.note_next_at.ensures.places) (turn_marked mid c.args.place all ready c.in_ok-server.ensures.unmarked));
  marks_stay = λ i h.
      let before = c.args.self.now.places.connections.items in
      let mid = c.take_turn_at.new.self.places.connections.items in
      let all = c.args.self.now.schedule.visits_all in
      let ready = c.args.self.now.schedule.ready.items in
      c.queue_again.ensures.marked i (marked_moved mid c.note_next_at.new.self.places.connections.items all c.note_next_at.new.self.schedule.visits_all ready
      c.note_next_at.new.self.schedule.ready.items i (ap (λ (p : ConnectionTable). p.connections.items) c.note_next_at.ensures.places)
      (c.note_next_at.ensures.all ∙ ap (λ (s : Schedule). s.visits_all) c.in_ok-server.ensures.schedule)
      (ap (λ v. v.items) c.note_next_at.ensures.ready ∙ ap (λ (s : Schedule). s.ready.items) c.in_ok-server.ensures.schedule)
      (turn_marks_stay before mid c.args.place all ready c.in_ok-server.ensures.unmarked c.in_ok-server.ensures.others i h));
}

pub take_turn_at-requires : goal.take_turn_at-requires
take_turn_at-requires g c = record {
  noted = same_noted c.args.self.now.places.connections.items c.args.server.core c.end_draft-server.result.core c.args.self.now.next_id
      c.end_draft-server.ensures.sessions c.requires.noted;
}
