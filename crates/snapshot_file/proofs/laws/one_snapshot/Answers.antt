use Rattle.snapshot_file.proofs.Unique.{one_snapshot}
use Rattle.snapshot_file.proofs.laws.one_snapshot.Goals as goal

pub returns : goal.returns
returns c = λ h k records others rest end is js e. one_snapshot h k records others rest end is.file js.file e
