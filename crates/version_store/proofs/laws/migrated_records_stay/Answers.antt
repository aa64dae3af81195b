use Rattle.version_store.proofs.Migrated.{migrated_records_stay}
use Rattle.version_store.proofs.laws.migrated_records_stay.Goals as goal

pub returns : goal.returns
returns c = migrated_records_stay
