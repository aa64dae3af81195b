-- When something is to be done for a connection, and what becomes of it after a turn.
use Rattle.std.specs.Prelude.{◌≡◌, ◌≤◌, ◌+◌, ◌-◌, ◌^◌, ℕ, None, min, unwrap_or}
use Rattle.connection_turns.specs.Connections.{MayServe}
use Rattle.connection_table.specs.declared.connection.ServedConnection.{ServedConnection}
use Rattle.connection_table.specs.declared.connection.TurnResult.{TurnResult}
use Rattle.connection_table.specs.declared.connection.TurnResult.TheVariants.{Busy, PutOff, Waits}

-- a turn after which a connection would go on
abbrev pub GoesOn : TurnResult → Type 0
GoesOn Busy = Unit {0}
GoesOn PutOff = Unit {0}
GoesOn Waits = Unit {0}
GoesOn _ = ⊥

-- a turn after which there is more to do at once: a frame that was put off is tried again without
-- waiting for the socket
abbrev pub HasMore : TurnResult → Type 0
HasMore Busy = Unit {0}
HasMore PutOff = Unit {0}
HasMore _ = ⊥

-- no frame of a connection that is not over may be served, and there was no progress for so many
-- milliseconds
pub record IsIdle (c : ServedConnection) (now idle : ℕ) : Type 0 where
  pub stays : c.lingers ≡ None
  pub nothing : MayServe c.state → ⊥
  pub late : idle ≤ now - c.state.progress

-- the moment at which something is to be done for a connection even if no event comes: its end, or
-- that at which it is idle
abbrev pub due_of : ℕ → ServedConnection → ℕ
due_of idle c = unwrap_or c.lingers (min (c.state.progress + idle) (2 ^ 64 - 1))
