-- When the writing of a connection is ended as its service stops.
use Rattle.std.specs.Prelude.{◌≡◌, ◌+◌, ◌-◌, ◌^◌, ◌⊎◌, ℕ, None, Some, false, min}
use Rattle.connection_turns.specs.Connections.{MayRead}
use Rattle.connection_table.specs.declared.connection.ServedConnection.{ServedConnection}
use Rattle.connection_table.specs.declared.connection.TurnResult.{TurnResult}
use Rattle.connection_table.specs.declared.connection.TurnResult.TheVariants.{Over, Waits}

-- Nothing of a connection is left to be served: all that came was read and served, no frame is
-- unfinished, and nothing is owed.
pub record IsServedOut (c : ServedConnection) : Type 0 where
  pub stays : c.lingers ≡ None
  pub all_read : c.readable ≡ false
  pub all_served : MayRead c.state
  pub nothing_held : c.held ≡ 0

-- The writing of a connection was ended at a moment, which is over then, or still read from for two
-- seconds.
abbrev pub EndsWriting : ℕ → ServedConnection → ServedConnection → TurnResult → Type 0
EndsWriting now old new outcome =
    ((new ≡ old) × (outcome ≡ Over))
    ⊎ ((new ≡ record old { lingers = Some (min (now + 2000) (2 ^ 64 - 1)) }) × (outcome ≡ Waits))
