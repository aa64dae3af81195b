use Rattle.version_store.proofs.HistoryLemmas.{publish_stands}
use Rattle.version_store.proofs.store.Store.publish.Goals as goal

pub returns-clause-history : goal.returns-clause-history
returns-clause-history g c = publish_stands c.args.self.now _ c.in_ok-publish_draft.ensures.done
