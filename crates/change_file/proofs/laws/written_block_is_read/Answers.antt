use Rattle.change_file.proofs.Bodies.{first_back}
use Rattle.change_file.proofs.laws.written_block_is_read.Goals as goal

pub returns : goal.returns
returns c = λ link more m is. first_back link more m is
