use Rattle.matrix_u32.proofs.Growth.{product-widened}
use Rattle.matrix_u32.proofs.laws.zero_columns_add_nothing.Goals as goal

pub returns : goal.returns
returns c = product-widened
