use Rattle.snapshot_file.proofs.NumberBytes.{only_bytes}
use Rattle.snapshot_file.proofs.laws.one_number.Goals as goal

pub returns : goal.returns
returns c = only_bytes
