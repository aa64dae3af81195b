use Rattle.server_core.proofs.Firsts.{firsts_are_pieces, stops_are_pieces}
use Rattle.server_core.proofs.laws.firsts_are_pieces.Goals as goal

pub returns-clause-served : goal.returns-clause-served
returns-clause-served c = firsts_are_pieces

pub returns-clause-stopped : goal.returns-clause-stopped
returns-clause-stopped c = stops_are_pieces
