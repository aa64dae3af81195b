use Rattle.matrix_u32.proofs.Changes.{transpose-product}
use Rattle.matrix_u32.proofs.laws.product_transposes.Goals as goal

pub returns : goal.returns
returns c = transpose-product
