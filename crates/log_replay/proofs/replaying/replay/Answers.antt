use Rattle.std.proofs.Common.{◌∙◌, ap}
use Rattle.version_store.specs.Histories.{held_published}
use Rattle.log_replay.proofs.ReplayLemmas.{replayed_stands, no_draft_left}
use Rattle.log_replay.proofs.replaying.replay.Goals as goal

pub returns-clause-replayed : goal.returns-clause-replayed
returns-clause-replayed g c = λ p is.
    c.in-Ok-publish.ensures.done ∙ ap held_published (c.in-Ok.ensures 0 p.changes is.each.changes is.changes)

pub returns-clause-history : goal.returns-clause-history
returns-clause-history g c = λ p is. replayed_stands c.args.store.now _ p (returns-clause-replayed g c p is)

pub returns-clause-undrafted : goal.returns-clause-undrafted
returns-clause-undrafted g c = no_draft_left c.make_changes.new.store _ c.in-Ok-publish.ensures.done
