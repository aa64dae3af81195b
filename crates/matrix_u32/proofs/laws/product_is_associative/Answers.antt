use Rattle.matrix_u32.proofs.Products.{product_assoc}
use Rattle.matrix_u32.proofs.laws.product_is_associative.Goals as goal

pub returns : goal.returns
returns c = product_assoc
