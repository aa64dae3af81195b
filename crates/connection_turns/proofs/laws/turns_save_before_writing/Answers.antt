use Rattle.connection_turns.proofs.Saving.{turns_save_before_writing}
use Rattle.connection_turns.proofs.laws.turns_save_before_writing.Goals as goal

pub returns : goal.returns
returns c = turns_save_before_writing
