use Rattle.pir_world.proofs.Fresh.{fresh, every_log}
use Rattle.pir_world.proofs.laws.answers_are_fresh.Goals as goal

pub returns : goal.returns
returns c = record {
  delivered = fresh c.retrieval_gives_the_record.ensures;
  logged = every_log c.retrieval_gives_the_record.ensures;
}
