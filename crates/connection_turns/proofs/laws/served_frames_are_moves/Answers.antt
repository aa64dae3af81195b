use Rattle.connection_turns.proofs.Deeds.{served_frames_are_moves, served_frames_are_deeds}
use Rattle.connection_turns.proofs.Replies.{owed_is_bounded}
use Rattle.connection_turns.proofs.laws.served_frames_are_moves.Goals as goal

pub returns-clause-moves : goal.returns-clause-moves
returns-clause-moves c = served_frames_are_moves

pub returns-clause-deeds : goal.returns-clause-deeds
returns-clause-deeds c = served_frames_are_deeds c.firsts_are_pieces.ensures.served

pub returns-clause-bounded : goal.returns-clause-bounded
returns-clause-bounded c = owed_is_bounded
