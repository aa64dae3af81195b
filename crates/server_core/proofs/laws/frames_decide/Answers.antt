use Rattle.server_core.proofs.Courses.{decided}
use Rattle.server_core.proofs.laws.frames_decide.Goals as goal

pub returns : goal.returns
returns c = decided
