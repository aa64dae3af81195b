use Rattle.std.proofs.Common.{take}
use Rattle.version_store.specs.Histories.{History, StandsFor}
use Rattle.server_core.specs.Serving.{ServedAll, setting_of}
use Rattle.server_core.proofs.serve.serve_frames.Given as goal

abbrev pub invariant-loop-frame : goal.invariant-loop-frame
invariant-loop-frame g l = (h : History) → StandsFor l.fn.store h →
    ServedAll (setting_of l.fn.store) h l.fn.standing (take l.frame-index l.frames) l.store l.standing l.fn.out.items l.out.items
