use Rattle.std.proofs.Common.{refl}
use Rattle.service_watch.proofs.Zeros.{nothing}
use Rattle.service_watch.proofs.counters.Counters.new.Goals as goal

pub returns : goal.returns
returns c = record { slots = refl; each = λ k within. nothing 48 k }
