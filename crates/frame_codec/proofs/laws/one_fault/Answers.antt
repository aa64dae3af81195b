use Rattle.frame_codec.proofs.Feedings.{one_fault}
use Rattle.frame_codec.proofs.Unique.{fault_of_frame}
use Rattle.frame_codec.proofs.laws.one_fault.Goals as goal

pub returns-clause-frames : goal.returns-clause-frames
returns-clause-frames c = fault_of_frame

pub returns-clause-faults : goal.returns-clause-faults
returns-clause-faults c = one_fault
