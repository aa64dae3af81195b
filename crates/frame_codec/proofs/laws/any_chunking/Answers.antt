use Rattle.frame_codec.proofs.Runs.{reads_all, same_frames, stops_after}
use Rattle.frame_codec.proofs.laws.any_chunking.Goals as goal

pub returns-clause-frames : goal.returns-clause-frames
returns-clause-frames c = reads_all

pub returns-clause-fault : goal.returns-clause-fault
returns-clause-fault c = stops_after

pub returns-clause-same : goal.returns-clause-same
returns-clause-same c = same_frames
