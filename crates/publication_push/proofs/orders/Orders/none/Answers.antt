use Rattle.std.proofs.Common.{[], refl}
use Rattle.publication_push.proofs.orders.Orders.none.Goals as goal

pub returns : goal.returns
returns c = ([], record { link = []; version = 0; each = tt; bytes_are = refl }, refl)
