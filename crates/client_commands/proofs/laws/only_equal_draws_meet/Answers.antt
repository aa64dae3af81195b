use Rattle.client_commands.proofs.Steps.{only_equal_draws_meet, folders_change_nothing}
use Rattle.client_commands.proofs.laws.only_equal_draws_meet.Goals as goal

pub returns-clause-apart : goal.returns-clause-apart
returns-clause-apart c = only_equal_draws_meet

pub returns-clause-folders : goal.returns-clause-folders
returns-clause-folders c = folders_change_nothing
