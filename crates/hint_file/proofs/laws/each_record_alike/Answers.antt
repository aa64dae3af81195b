use Rattle.hint_file.proofs.PartsRead.{each_record_alike}
use Rattle.hint_file.proofs.laws.each_record_alike.Goals as goal

pub returns : goal.returns
returns c = each_record_alike
