-- Places of connections, and the sessions of a server.
use Rattle.std.specs.Prelude.{◌≡◌, ◌≢◌, ◌<◌, ◌⊎◌, ℕ, List, Option, None, Some, slice_set}
use Rattle.server_core.specs.Cores.{Core, session_of}
use Rattle.connection_table.specs.Holding.{held_by}
use Rattle.connection_turns.specs.Runs.{DoesToCore, Closes}
use Rattle.connection_table.specs.declared.connection.ServedConnection.{ServedConnection}
use Rattle.connection_table.specs.Places.{connection_at, LosesLargest}

-- A connection was put into a place. That connection is there, or one of those for which most is
-- held went, with its session and no other.
abbrev pub PutsOrEvicts : ℕ → ServedConnection → List (Option ServedConnection) → Core → List (Option ServedConnection) → Core → Type 0
PutsOrEvicts place c before old after new =
    ((after ≡ slice_set before place (Some c)) × (new ≡ old))
    ⊎ ((lost : ServedConnection) × LosesLargest (slice_set before place (Some c)) lost after × DoesToCore old (Closes lost.id) new)

-- No session but one has come or changed. Others may have been closed.
abbrev pub SessionsStayOrGo : ℕ → Core → Core → Type 0
SessionsStayOrGo id old new = (other : ℕ) → other ≢ id →
    (session_of new.sessions other ≡ session_of old.sessions other) ⊎ (session_of new.sessions other ≡ None)

-- Each connection has a session of its own, with a number that was used before the next one, and
-- what is noted of it is how many bytes that session keeps of an unfinished frame, and how many are
-- owed.
pub record AreNoted (places : List (Option ServedConnection)) (core : Core) (next : ℕ) : Type 0 where
  pub noted : (i : ℕ) (c : ServedConnection) → connection_at places i ≡ Some c → c.held ≡ held_by (session_of core.sessions c.id) c.state
  pub below : (i : ℕ) (c : ServedConnection) → connection_at places i ≡ Some c → c.id < next
  pub apart : (i j : ℕ) (c d : ServedConnection) → connection_at places i ≡ Some c → connection_at places j ≡ Some d → c.id ≡ d.id → i ≡ j
