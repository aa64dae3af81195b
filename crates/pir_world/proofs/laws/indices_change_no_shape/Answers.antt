use Rattle.pir_world.proofs.ShapesSteps.{no_shape_changes}
use Rattle.pir_world.proofs.laws.indices_change_no_shape.Goals as goal

pub returns : goal.returns
returns c = no_shape_changes c.retrieval_gives_the_record.ensures
