use Rattle.std.proofs.Common.{◌≡◌, subst, arith, ℕ, take}
use Rattle.log_replay.specs.Laws.{AreRecordsReplayedAll}
use Rattle.log_replay.proofs.ReplayLemmas.{splits_entries, no_entry_left}
use Rattle.log_replay.proofs.EarlierOnes.{none_made, one_made, first_made, all_made}
use Rattle.log_replay.proofs.compaction.replay_first.Goals as goal

pub loop-i-init : goal.loop-i-init
loop-i-init g c = (
  c.requires,
  λ link version ps each e.
      none_made (g.H.RecordHolder.header c.args.held.now) (g.H.RecordHolder.bytes c.args.held.now) ps c.args.publications.rest.now
      (record { link = link; version = version; each = each; bytes_are = e }),
)

pub loop-i-preserved : goal.loop-i-preserved
loop-i-preserved g c = (
  c.in_default-replay_records.ensures.sound,
  λ link version ps each e.
      let before = c.loop-i.invariant.1 link version ps each e in
      let split = splits_entries c.loop-i.left.rest.now before.left c.in-Some.publication c.in-Some.rest.rest.now before.entries c.in-Some.ensures.some
      (λ none. absurd (let bad = c.in-Some.ensures.none none in cc)) in
      one_made (g.H.RecordHolder.header c.args.held.now) (g.H.RecordHolder.header c.loop-i.held) (g.H.RecordHolder.header c.replay_records.new.held) (g.H.RecordHolder.bytes c.args.held.now)
      (g.H.RecordHolder.bytes c.loop-i.held) (g.H.RecordHolder.bytes c.replay_records.new.held) c.loop-i.left.rest.now c.in-Some.rest.rest.now ps c.loop-i.i
      c.in-Some.publication before split (c.in_default-replay_records.ensures.replayed split.first split.first_is),
)

pub returns-in_default-clause-replayed : goal.returns-in_default-clause-replayed
returns-in_default-clause-replayed g c = λ link version ps each e.
    let made = c.loop-i.invariant.1 link version ps each e in
    let none = no_entry_left c.loop-i.left.rest.now made.left made.entries c.in_default.ensures.some in
    all_made (g.H.RecordHolder.header c.args.held.now) (g.H.RecordHolder.header c.loop-i.held) (g.H.RecordHolder.bytes c.args.held.now) (g.H.RecordHolder.bytes c.loop-i.held)
    c.loop-i.left.rest.now ps c.loop-i.i c.args.n made c.loop-i.auto.i-end none

pub returns-clause-replayed : goal.returns-clause-replayed
returns-clause-replayed g c = λ link version ps each e.
    let made = c.loop-i.invariant.1 link version ps each e in
    let all : c.loop-i.i ≡ c.args.n = omega (arith, c.loop-i.auto.i-end, c.loop-i-test.false) in
    subst (λ (n : ℕ). AreRecordsReplayedAll (g.H.RecordHolder.header c.args.held.now) (g.H.RecordHolder.bytes c.args.held.now) (take n ps) (g.H.RecordHolder.header c.loop-i.held)
    (g.H.RecordHolder.bytes c.loop-i.held)) all
    (first_made (g.H.RecordHolder.header c.args.held.now) (g.H.RecordHolder.header c.loop-i.held) (g.H.RecordHolder.bytes c.args.held.now) (g.H.RecordHolder.bytes c.loop-i.held)
    c.loop-i.left.rest.now ps c.loop-i.i made)
