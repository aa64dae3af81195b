use Rattle.std.proofs.Common.{◌≡◌, ◌+◌, ◌≤◌, refl, arith}
use Rattle.log_replay.proofs.RecordLemmas.{next_sound, next_replayed}
use Rattle.log_replay.proofs.records.replay_records.Goals as goal

pub returns-clause-sound : goal.returns-clause-sound
returns-clause-sound g c =
    let some : 1 ≤ c.args.publication.version = omega (arith, c.if-not-is_replayable.ensures.next refl) in
    next_sound (g.H.RecordHolder.header c.put_changes.new.held) (g.H.RecordHolder.header c.set_version.new.self) (g.H.RecordHolder.bytes c.put_changes.new.held)
    (g.H.RecordHolder.bytes c.set_version.new.self) c.args.publication.version c.in-Ok.ensures.sound some c.set_version.ensures.header c.set_version.ensures.bytes

pub returns-clause-replayed : goal.returns-clause-replayed
returns-clause-replayed g c = λ p is.
    let next : c.args.publication.version ≡ (g.H.RecordHolder.header c.args.held.now).version + 1 =
    omega (arith, c.if-not-is_replayable.ensures.next refl, c.version.ensures) in
    next_replayed (g.H.RecordHolder.header c.args.held.now) (g.H.RecordHolder.header c.put_changes.new.held) (g.H.RecordHolder.header c.set_version.new.self)
    (g.H.RecordHolder.bytes c.args.held.now) (g.H.RecordHolder.bytes c.put_changes.new.held) (g.H.RecordHolder.bytes c.set_version.new.self) p
    c.args.publication.version (c.in-Ok.ensures.put 0 p.changes is.each.changes is.changes) next c.set_version.ensures.header c.set_version.ensures.bytes
