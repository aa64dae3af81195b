use Rattle.pir_world.proofs.Opening.{headline}
use Rattle.pir_world.proofs.laws.every_run_is_right.Goals as goal

pub returns : goal.returns
returns c = headline c.retrieval_gives_the_record.ensures
