use Rattle.regev_core.proofs.Stripping.{quiet_matrix_row}
use Rattle.regev_core.proofs.laws.quiet_matrix_row_gives_its_entry.Goals as goal

pub returns : goal.returns
returns c = quiet_matrix_row
