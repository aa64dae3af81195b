use Rattle.matrix_u32.proofs.Growth.{product-first_rows}
use Rattle.matrix_u32.proofs.laws.further_rows_add_nothing.Goals as goal

pub returns : goal.returns
returns c = product-first_rows
