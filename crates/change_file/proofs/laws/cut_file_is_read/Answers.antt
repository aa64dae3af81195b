use Rattle.change_file.proofs.Cuts.{cut_file}
use Rattle.change_file.proofs.laws.cut_file_is_read.Goals as goal

pub returns : goal.returns
returns c = cut_file
