use Rattle.record_log.proofs.Versions.{old_bytes_stay}
use Rattle.record_log.proofs.laws.old_bytes_stay_with_blanks.Goals as goal

pub returns : goal.returns
returns c = old_bytes_stay
