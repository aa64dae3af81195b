use Rattle.std.proofs.Common.{◌≡◌, take}
use Rattle.connection_io.specs.Calls.{Sends}
use Rattle.once_session.specs.Courses.{HasTable, replies_to, stage_after, encodings}
use Rattle.once_session.proofs.engine.answer_frames.Given as goal

abbrev pub invariant-loop-frame : goal.invariant-loop-frame
invariant-loop-frame g l = record {
  stage : l.stage ≡ stage_after l.fn.stage (take l.frame-index l.frames);
  table : HasTable l.stage;
  written : Sends g.C.Connection.does l.fn.connection (encodings (replies_to l.fn.stage (take l.frame-index l.frames))) l.connection;
}
