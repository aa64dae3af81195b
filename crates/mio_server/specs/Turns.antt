-- Which connections have their turn, and what a turn leaves of the others.
use Rattle.std.specs.Prelude.{◌≡◌, ◌≢◌, ◌≤◌, ◌⊎◌, ℕ, List, Bool, false, true, Option, None, Some, option_map, IfSome, slice_get}
use Rattle.connection_table.specs.declared.connection.ServedConnection.{ServedConnection}
use Rattle.connection_table.specs.Judging.{IsIdle, due_of}
use Rattle.connection_table.specs.Places.{connection_at}

-- a connection was idle at a moment, since its last progress before that
pub record HasBeenIdle (c : ServedConnection) (moment idle : ℕ) : Type 0 where
  pub idles : IsIdle c moment idle
  pub began : c.state.progress ≤ moment

-- a connection without the flags of its socket, and of its turn
abbrev pub unflagged : ServedConnection → ServedConnection
unflagged c = record c { readable = false; writable = false; queued = false }

-- At each place there is the connection that was there, but for its flags.
abbrev pub OnlyFlagsChange : List (Option ServedConnection) → List (Option ServedConnection) → Type 0
OnlyFlagsChange before after = (i : ℕ) → option_map unflagged (connection_at after i) ≡ option_map unflagged (connection_at before i)

-- Each connection for which something is due at a moment will have its turn.
abbrev pub AreQueued : List (Option ServedConnection) → ℕ → ℕ → Type 0
AreQueued places idle now = (i : ℕ) (c : ServedConnection) → connection_at places i ≡ Some c → due_of idle c ≤ now → c.queued ≡ true

-- There is no connection at a place that was idle at a moment.
abbrev pub HasNoIdle : List (Option ServedConnection) → ℕ → ℕ → ℕ → Type 0
HasNoIdle places i moment idle = IfSome (connection_at places i) (λ c. HasBeenIdle c moment idle → ⊥)

-- A place has its turn next: it is among those that are noted, or each one has.
abbrev pub HasTurn : Bool → List ℕ → ℕ → Type 0
HasTurn all ready i = (all ≡ true) ⊎ ((k : ℕ) × (slice_get ready k ≡ Some i))

-- A connection at a place that is marked as one that will have its turn has it.
abbrev pub HasTurnIfMarked : List (Option ServedConnection) → Bool → List ℕ → ℕ → Type 0
HasTurnIfMarked places all ready i = IfSome (connection_at places i) (λ c. c.queued ≡ true → HasTurn all ready i)

-- Each connection that is marked as one that will have its turn has it.
abbrev pub AreMarkedNoted : List (Option ServedConnection) → Bool → List ℕ → Type 0
AreMarkedNoted places all ready = (i : ℕ) → HasTurnIfMarked places all ready i

-- At a place there is what was there, or a connection that is marked as one that will have its
-- turn, and has it, or none.
abbrev pub ComesWithTurn : List (Option ServedConnection) → List (Option ServedConnection) → Bool → List ℕ → ℕ → Type 0
ComesWithTurn before after all ready i =
    (connection_at after i ≡ connection_at before i) ⊎ IfSome (connection_at after i) (λ c. (c.queued ≡ true) × HasTurn all ready i)

-- At no place but one has a connection come or changed. Others may have gone.
abbrev pub OthersStayOrGo : ℕ → List (Option ServedConnection) → List (Option ServedConnection) → Type 0
OthersStayOrGo place before after = (i : ℕ) → i ≢ place →
    (connection_at after i ≡ connection_at before i) ⊎ (connection_at after i ≡ None)
