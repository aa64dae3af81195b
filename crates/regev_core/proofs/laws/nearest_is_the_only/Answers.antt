use Rattle.regev_core.proofs.Rounding.{nearest_is, nearest_only}
use Rattle.regev_core.proofs.laws.nearest_is_the_only.Goals as goal

pub returns : goal.returns
returns c = λ w word h. (nearest_is w word h, λ d i. nearest_only w word d h i)
