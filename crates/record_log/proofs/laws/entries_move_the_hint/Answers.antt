use Rattle.record_log.proofs.EntriesMove.{entries_move}
use Rattle.record_log.proofs.laws.entries_move_the_hint.Goals as goal

pub returns : goal.returns
returns c = entries_move
