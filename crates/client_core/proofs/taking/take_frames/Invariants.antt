use Rattle.std.proofs.Common.{take}
use Rattle.client_core.specs.Feeding.{takes_all}
use Rattle.client_core.proofs.Courses.{SoFar}
use Rattle.client_core.proofs.taking.take_frames.Given as goal

abbrev pub invariant-loop-frame : goal.invariant-loop-frame
invariant-loop-frame g l = SoFar l.fn.state (takes_all l.fn.state (take l.frame-index l.frames)) l.state l.out.items l.events.items
