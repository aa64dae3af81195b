use Rattle.regev_core.proofs.Stripping.{quiet_row}
use Rattle.regev_core.proofs.laws.quiet_row_gives_its_digit.Goals as goal

pub returns : goal.returns
returns c = quiet_row
