use Rattle.hint_file.proofs.PartsRead.{record_rows_are_read}
use Rattle.hint_file.proofs.laws.record_rows_are_read.Goals as goal

pub returns : goal.returns
returns c = record_rows_are_read
