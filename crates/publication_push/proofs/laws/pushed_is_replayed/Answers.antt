use Rattle.publication_push.proofs.Afterwards.{pushed_is_replayed, dones_name_the_log, pushes_add_up, session_is_replayed}
use Rattle.publication_push.proofs.laws.pushed_is_replayed.Goals as goal

pub returns-clause-replayed : goal.returns-clause-replayed
returns-clause-replayed c = pushed_is_replayed

pub returns-clause-named : goal.returns-clause-named
returns-clause-named c = dones_name_the_log

pub returns-clause-whole : goal.returns-clause-whole
returns-clause-whole c = pushes_add_up

pub returns-clause-session : goal.returns-clause-session
returns-clause-session c = session_is_replayed
