use Rattle.version_store.proofs.Migrated.{widened_records_stay}
use Rattle.version_store.proofs.laws.widened_records_stay.Goals as goal

pub returns : goal.returns
returns c = widened_records_stay
