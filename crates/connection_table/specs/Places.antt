-- The places of connections, and what is held for them.
use Rattle.std.specs.Prelude.{◌≡◌, ℕ, List, length, Bool, true, ◌||◌, Option, None, Some, is_some, slice_index_or, slice_set}
use Rattle.std.specs.List.{count_by, sum_by, IsFirstMaxByKey}
use Rattle.service_watch.specs.Counts.{saturating}
use Rattle.connection_table.specs.declared.connection.ServedConnection.{ServedConnection}

-- the connection at a place; none if the place is free, or there is no such place
abbrev pub connection_at : List (Option ServedConnection) → ℕ → Option ServedConnection
connection_at places i = slice_index_or places i None

-- how many connections there are
abbrev pub open_count : List (Option ServedConnection) → ℕ
open_count places = count_by is_some places

-- how many bytes are held for a connection
abbrev pub held_bytes : Option ServedConnection → ℕ
held_bytes None = 0
held_bytes (Some c) = c.held

-- how many bytes are held for all connections together
abbrev pub all_held : List (Option ServedConnection) → ℕ
all_held places = sum_by held_bytes places

-- how many bytes are owed to a connection
abbrev pub owed_bytes : Option ServedConnection → ℕ
owed_bytes None = 0
owed_bytes (Some c) = length c.state.owed

-- how many bytes are owed to all connections together, as a word says it
abbrev pub all_owed : List (Option ServedConnection) → ℕ
all_owed places = saturating (sum_by owed_bytes places)

-- a connection whose socket may be read or written, and which will have its turn
abbrev pub noted : Bool → Bool → Option ServedConnection → Option ServedConnection
noted readable writable None = None
noted readable writable (Some c) = Some (record c { readable = c.readable || readable; writable = c.writable || writable; queued = true })

-- a connection was taken away: of those for which most is held it had the first place, which is
-- free now
pub record LosesLargest (before : List (Option ServedConnection)) (c : ServedConnection) (after : List (Option ServedConnection)) : Type 0 where
  pub place : ℕ
  pub largest : IsFirstMaxByKey held_bytes before (length before) place
  pub was_there : connection_at before place ≡ Some c
  pub after_is : after ≡ slice_set before place None
