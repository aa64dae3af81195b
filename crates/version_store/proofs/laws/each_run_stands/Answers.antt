use Rattle.version_store.proofs.HistoryLemmas.{run_stands}
use Rattle.version_store.proofs.laws.each_run_stands.Goals as goal

pub returns : goal.returns
returns c = run_stands
