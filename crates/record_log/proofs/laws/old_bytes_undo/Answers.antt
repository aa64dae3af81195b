use Rattle.record_log.proofs.Undoing.{old_bytes_undo}
use Rattle.record_log.proofs.laws.old_bytes_undo.Goals as goal

pub returns : goal.returns
returns c = old_bytes_undo
