-- What a server does turn by turn.
use Rattle.std.specs.Prelude.{◌≡◌, ◌<◌, ◌⊎◌, ℕ, List, [], length, Bool, true, false, Option, Some, None, Result, Ok, Err}
use Rattle.std.specs.List.{FoldsTo}
use Rattle.connection_io.specs.Calls.{IoCall, Read, ReadFails, Sends, SendsUntilFault}
use Rattle.version_store.specs.Histories.{History, StandsFor}
use Rattle.server_core.specs.Cores.{Core, session_of, is_open}
use Rattle.server_core.specs.Serving.{setting_of}
use Rattle.server_core.specs.Sessions.{Session, new_session}
use Rattle.blocking_io.specs.declared.serving.Ending.{Ending}
use Rattle.blocking_io.specs.declared.serving.Ending.TheVariants.{Closed, EndOfInput}
use Rattle.blocking_io.specs.declared.serving.ServeFault.{ServeFault}
use Rattle.blocking_io.specs.declared.serving.ServeFault.TheVariants as fault
use Rattle.connection_io.specs.Turns.{CallTurn, ReadsPiece}
use Rattle.blocking_io.specs.Serving.{ServesStreamPiece}

-- how the replies to a piece went out: all of them, or a part until a write failed
abbrev pub WritesReplies : {T C : Type 0} → (C → IoCall → C → Type 0) → Result T ServeFault → C → List ℕ → C → Type 0
WritesReplies does (Err fault.Write) a bytes b = SendsUntilFault does a bytes b
WritesReplies does _ a bytes b = Sends does a bytes b

-- A piece came, in one read: it was served to the session, and the replies went out before any
-- other call.
pub record TakesPiece {C : Type 0} (does : C → IoCall → C → Type 0) (id : ℕ) (old : Core) (a : C) (answer : Result (Unit {0}) ServeFault) (turn : CallTurn)
    (new : Core) (b : C) : Type 0 where
  pub middle : C
  pub reads : ReadsPiece does a turn.piece middle
  pub writes : WritesReplies does answer middle turn.output b
  pub served : (h : History) → StandsFor old.store h → (s : Session) → session_of old.sessions id ≡ Some s →
      ServesStreamPiece (setting_of old.store) h s turn.piece answer new.store (session_of new.sessions id) turn.output

-- after a turn the session is open still, or was closed by it
pub record LeavesSession {C : Type 0} (does : C → IoCall → C → Type 0) (id : ℕ) (open_ : Bool) (old : Core) (a : C) (turn : CallTurn) (new : Core)
    (b : C) : Type 0 where
  pub takes : TakesPiece does id old a (Ok tt) turn new b
  pub is_so : is_open (session_of new.sessions id) ≡ open_

-- A turn, by its answer: the session is open and the turns go on, it came to its end, or something
-- failed.
abbrev pub ServesTurn : {C : Type 0} → (C → IoCall → C → Type 0) → ℕ → Core → C → Result (Option Ending) ServeFault → Core → C → Type 0
ServesTurn does id old a (Ok None) new b = (turn : CallTurn) × LeavesSession does id true old a turn new b
ServesTurn does id old a (Ok (Some Closed)) new b = (turn : CallTurn) × LeavesSession does id false old a turn new b
ServesTurn does id old a (Ok (Some EndOfInput)) new b = does a (Read 65536 []) b × (new ≡ old)
ServesTurn does id old a (Err fault.IdInUse) new b = ⊥
ServesTurn does id old a (Err fault.Read) new b = does a ReadFails b × (new ≡ old)
ServesTurn does id old a (Err fault.Write) new b = (turn : CallTurn) × TakesPiece does id old a (Err fault.Write) turn new b
ServesTurn does id old a (Err fault.Memory) new b = (turn : CallTurn) × TakesPiece does id old a (Err fault.Memory) turn new b
ServesTurn does id old a (Err fault.TurnsUsedUp) new b = ⊥

-- turns one after another, each of which left the session open
abbrev pub KeepsServing : {C : Type 0} → (C → IoCall → C → Type 0) → ℕ → Core → C → List CallTurn → Core → C → Type 0
KeepsServing {C = C} does id old a turns new b = FoldsTo {P = Core × C} (λ p turn q. LeavesSession does id true p.0 p.1 turn q.0 q.1) (old, a) turns (new, b)

-- the last turn after so many, of which there may be `turns`
abbrev pub EndsTurns : {C : Type 0} → (C → IoCall → C → Type 0) → ℕ → ℕ → ℕ → Core → C → Result Ending ServeFault → Core → C → Type 0
EndsTurns does id turns count old a (Ok ending) new b = (count < turns) × ServesTurn does id old a (Ok (Some ending)) new b
EndsTurns does id turns count old a (Err fault.TurnsUsedUp) new b = (count ≡ turns) × (new ≡ old) × (b ≡ a)
EndsTurns does id turns count old a (Err e) new b = (count < turns) × ServesTurn does id old a (Err e) new b

-- Turn after turn, each with a read of its own: those that left the session open, and the last.
-- There is no call after it.
pub record ServesTurns {C : Type 0} (does : C → IoCall → C → Type 0) (id turns : ℕ) (old : Core) (a : C) (result : Result Ending ServeFault) (new : Core)
    (b : C) : Type 0 where
  pub before : List CallTurn
  pub core : Core
  pub middle : C
  pub begun : KeepsServing does id old a before core middle
  pub ends : EndsTurns does id turns (length before) core middle result new b

-- there was no memory to begin with: no call was made
abbrev pub NeverServes : {C : Type 0} → Core → C → Result Ending ServeFault → Core → C → Type 0
NeverServes old a result new b = (result ≡ Err fault.Memory) × (new.store ≡ old.store) × (b ≡ a)

-- a session that was opened, served in turns and taken away
pub record ServesSession {C : Type 0} (does : C → IoCall → C → Type 0) (id turns : ℕ) (old : Core) (a : C) (result : Result Ending ServeFault) (new : Core)
    (b : C) : Type 0 where
  pub opened : Core
  pub store_is : opened.store ≡ old.store
  pub session_is : session_of opened.sessions id ≡ Some new_session
  pub last : Core
  pub turns_are : ServesTurns does id turns opened a result last b
  pub store_then : new.store ≡ last.store

-- What was done over a connection. If there was a session of this number, nothing.
abbrev pub ServesOver : {C : Type 0} → (C → IoCall → C → Type 0) → ℕ → ℕ → Core → C → Result Ending ServeFault → Core → C → Type 0
ServesOver does id turns old a (Err fault.IdInUse) new b = (new ≡ old) × (b ≡ a)
ServesOver does id turns old a result new b = NeverServes old a result new b ⊎ ServesSession does id turns old a result new b
