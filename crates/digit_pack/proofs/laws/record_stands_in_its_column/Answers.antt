use Rattle.digit_pack.proofs.Records.{entry-record}
use Rattle.digit_pack.proofs.laws.record_stands_in_its_column.Goals as goal

pub returns : goal.returns
returns c = entry-record
