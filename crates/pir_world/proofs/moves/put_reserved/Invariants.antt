use Rattle.std.proofs.Common.{◌≡◌, ◌≤◌, ◌+◌, ◌++◌, length, map}
use Rattle.std.specs.Prelude.{vec_len, vec_capacity}
use Rattle.pir_world.specs.declared.steps.Outcome.TheVariants.{Reported}
use Rattle.pir_world.proofs.moves.put_reserved.Given as goal

abbrev pub invariant-loop-event : goal.invariant-loop-event
invariant-loop-event l =
    (l.outcomes.items ≡ l.fn.outcomes.items ++ map (Reported l.k) l.yielded)
    × (vec_capacity l.outcomes ≡ vec_capacity l.fn.outcomes)
    × (vec_len l.outcomes + length l.event-iterator.rest.items ≤ vec_capacity l.outcomes)
    × (l.fn.events.items ≡ l.yielded ++ l.event-iterator.rest.items)
