use Rattle.std.proofs.Common.{◌≡◌, ◌++◌, List, length}
use Rattle.frame_codec.specs.declared.frame.Frame.{Frame}
use Rattle.frame_codec.proofs.Takings.{GoesOn}
use Rattle.frame_codec.proofs.reader.Reader.feed.Given as goal

abbrev pub invariant-frames : goal.invariant-frames
invariant-frames l = record {
  frames : List Frame;
  added : l.out.items ≡ l.fn.out.items ++ frames;
  goes_on : GoesOn l.fn.wide l.fn.self l.fn.piece frames l.self l.rest;
}

abbrev pub decreases-frames : goal.decreases-frames
decreases-frames l = length l.rest
