use Rattle.snapshot_file.proofs.Stages.{one_verdict}
use Rattle.snapshot_file.proofs.laws.one_verdict.Goals as goal

pub returns : goal.returns
returns c = one_verdict
