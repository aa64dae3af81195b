-- What the server holds for a connection.
use Rattle.std.specs.Prelude.{◌+◌, ◌-◌, ◌^◌, ℕ, Option, length, min}
use Rattle.server_core.specs.Cores.{unfinished_in}
use Rattle.server_core.specs.Sessions.{Session}
use Rattle.connection_turns.specs.Connections.{ConnectionSeen}

-- How many bytes are held for a connection: those of an unfinished frame that its session keeps,
-- and those that are owed. No more are counted than a word can say.
abbrev pub held_by : Option Session → ConnectionSeen → ℕ
held_by session l = min (unfinished_in session + length l.owed) (2 ^ 64 - 1)
