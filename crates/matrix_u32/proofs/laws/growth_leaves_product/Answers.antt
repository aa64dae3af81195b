use Rattle.matrix_u32.proofs.Growth.{product-grown}
use Rattle.matrix_u32.proofs.laws.growth_leaves_product.Goals as goal

pub returns : goal.returns
returns c = product-grown
