use Rattle.pir_server.proofs.commands.moved_of.Goals as goal

pub returns : goal.returns
returns c = (c.in_ok-whole.whole.snapshot, c.in_ok-moved.ensures)
