use Rattle.pir_client.proofs.command_line.scheme_named.Goals as goal

pub returns-in-simple : goal.returns-in-simple
returns-in-simple c = c.in-simple.is

pub returns-in-double : goal.returns-in-double
returns-in-double c = c.in-double.is
