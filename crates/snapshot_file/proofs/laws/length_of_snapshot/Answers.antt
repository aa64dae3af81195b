use Rattle.snapshot_file.proofs.Unique.{length-snapshot}
use Rattle.snapshot_file.proofs.Headers.{length-header}
use Rattle.snapshot_file.proofs.laws.length_of_snapshot.Goals as goal

pub returns : goal.returns
returns c = λ h records is. (length-header h is.file.header, length-snapshot h records is.file)
