use Rattle.std.proofs.Common.{◌≡◌, None, replicate}
use Rattle.service_status.proofs.status.free_places.Given as goal

abbrev pub invariant-loop : goal.invariant-loop
invariant-loop l = l.places.items ≡ replicate l.counter None
