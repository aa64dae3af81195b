use Rattle.std.proofs.Common.{◌∙◌, ℕ, inl, inr, sym, ap, subst}
use Rattle.std.proofs.lemmas.Bool.{cases_lt}
use Rattle.mio_server.specs.declared.serving.Limits.{Limits}
use Rattle.mio_server.specs.declared.serving.Service.{Service}
use Rattle.mio_server.specs.Turns.{AreMarkedNoted}
use Rattle.mio_server.specs.Sessions.{AreNoted}
use Rattle.mio_server.proofs.Flags.{flags_noted}
use Rattle.mio_server.proofs.Idle.{flags_active, here_moved}
use Rattle.mio_server.proofs.Marks.{all_taken, comes_idle, comes_marked, four_ok, idle_moved, look_idle, IsMarkedIfIdle}
use Rattle.mio_server.proofs.serving.Service.round.Goals as goal

pub accept_all-requires : goal.accept_all-requires
accept_all-requires g c = record {
  noted = subst (λ n. AreNoted c.note_all.new.self.places.connections.items c.args.server.core n) (sym c.note_all.ensures.number)
      (flags_noted c.args.self.now.places.connections.items c.note_all.new.self.places.connections.items c.args.server.core c.args.self.now.next_id
      c.note_all.ensures.flags c.requires.noted);
}

pub take_turns-requires : goal.take_turns-requires
take_turns-requires g c = record {
  noted = subst (λ n. AreNoted c.note_due.new.self.places.connections.items c.accept_all.new.server.core n) (sym c.note_due.ensures.number)
      (flags_noted c.accept_all.new.self.places.connections.items c.note_due.new.self.places.connections.items c.accept_all.new.server.core
      c.accept_all.new.self.next_id c.note_due.ensures.flags c.accept_all.ensures.noted);
}

pub returns-clause-marked : goal.returns-clause-marked
returns-clause-marked g c =
    let n = c.note_all.new.self in
    let x = c.accept_all.new.self in
    let d = c.note_due.new.self in
    let marked : AreMarkedNoted d.places.connections.items d.schedule.visits_all d.schedule.ready.items = λ i. c.note_due.ensures.marked i
    (comes_marked n.places.connections.items x.places.connections.items n.schedule.visits_all x.schedule.visits_all n.schedule.ready.items x.schedule.ready.items
    c.accept_all.ensures.turns c.accept_all.ensures.comes (λ k. c.note_all.ensures.marked k (c.requires.marked k)) i) in
    c.take_turns.ensures.marked marked

pub returns-clause-idle : goal.returns-clause-idle
returns-clause-idle g c =
    let n = c.note_all.new.self in
    let x = c.accept_all.new.self in
    let d = c.note_due.new.self in
    let marked : AreMarkedNoted d.places.connections.items d.schedule.visits_all d.schedule.ready.items = λ i. c.note_due.ensures.marked i
    (comes_marked n.places.connections.items x.places.connections.items n.schedule.visits_all x.schedule.visits_all n.schedule.ready.items x.schedule.ready.items
    c.accept_all.ensures.turns c.accept_all.ensures.comes (λ k. c.note_all.ensures.marked k (c.requires.marked k)) i) in
    let a = c.args.self.now in
    let e = c.take_turns.new.self in
    let now = c.in-Ok.now in
    let came : (i : ℕ) → IsMarkedIfIdle x.places.connections.items i a.schedule.scanned a.limits.idle =
    comes_idle n.places.connections.items x.places.connections.items x.schedule.visits_all x.schedule.ready.items a.schedule.scanned a.limits.idle c.accept_all.ensures.comes
    (λ i. flags_active a.places.connections.items n.places.connections.items a.schedule.scanned a.limits.idle i c.note_all.ensures.flags (c.requires.idle i)) in
    let idles : (i : ℕ) → IsMarkedIfIdle x.places.connections.items i x.schedule.scanned x.limits.idle = λ i.
    idle_moved x.places.connections.items i a.schedule.scanned a.limits.idle x.schedule.scanned x.limits.idle (c.accept_all.ensures.scanned ∙ c.note_all.ensures.scanned)
    (ap (λ (k : Limits). k.idle) (c.accept_all.ensures.limits ∙ c.note_all.ensures.limits)) (came i) in
    let due : (i : ℕ) → IsMarkedIfIdle d.places.connections.items i d.schedule.scanned d.limits.idle = λ i. elim (cases_lt now x.schedule.scan_at) [
      | inl early ↦ subst (λ (k : Service). IsMarkedIfIdle k.places.connections.items i k.schedule.scanned k.limits.idle) (sym (c.note_due.ensures.waits early)) (idles i)
      | inr late ↦ let look = c.note_due.ensures.looks late in
          subst (λ (k : ℕ). IsMarkedIfIdle d.places.connections.items i k d.limits.idle) (sym look.0)
          (look_idle d.places.connections.items d.limits.idle now look.1 i)
    ] in
    four_ok c.take_turns.result c.take_turns.ensures.idle c.take_turns.ensures.stays c.take_turns.ensures.scanned c.take_turns.ensures.limits
    (λ taken stays scanned limits. λ i. here_moved e.places.connections.items i d.schedule.scanned d.limits.idle e.schedule.scanned e.limits.idle (sym scanned)
    (sym (ap (λ (k : Limits). k.idle) limits))
    (all_taken d.places.connections.items e.places.connections.items d.schedule.visits_all d.schedule.ready.items d.schedule.scanned d.limits.idle marked due taken stays i))
