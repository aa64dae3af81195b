use Rattle.std.proofs.Common.{◌≡◌, ◌≤◌, ◌<◌, ℕ, take, map, Some, None}
use Rattle.server_core.specs.Cores.{session_of}
use Rattle.server_core.specs.Sessions.{new_session}
use Rattle.pir_world.specs.Sides.{fresh_side}
use Rattle.pir_world.proofs.world.open_ends.Given as goal

abbrev pub invariant-loop-id : goal.invariant-loop-id
invariant-loop-id g l =
    (l.ends.items ≡ map (fresh_side l.wide) (take l.id l.seeds))
    × ((j : ℕ) → j < l.id → session_of l.server.sessions j ≡ Some new_session)
    × ((j : ℕ) → l.id ≤ j → session_of l.server.sessions j ≡ None)
    × (l.server.store ≡ l.fn.server.store)
