use Rattle.version_store.proofs.BroughtForward.{unchanged_rows_stay}
use Rattle.version_store.proofs.laws.unchanged_rows_stay.Goals as goal

pub returns : goal.returns
returns c = unchanged_rows_stay
