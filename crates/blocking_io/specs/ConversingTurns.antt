-- What a client hears turn by turn.
use Rattle.std.specs.Prelude.{◌≡◌, ◌<◌, ◌⊎◌, ℕ, List, [], length, Option, Some, None, Result, Ok, Err}
use Rattle.std.specs.List.{FoldsTo}
use Rattle.connection_io.specs.Calls.{IoCall, Read, ReadFails, Sends, SendsUntilFault}
use Rattle.client_core.specs.Feeding.{Client}
use Rattle.client_core.specs.declared.state.Event.{Event}
use Rattle.blocking_io.specs.declared.conversing.ConverseFault.{ConverseFault}
use Rattle.blocking_io.specs.declared.conversing.ConverseFault.TheVariants.{Ended, Read as read_fault, Write, Memory, TurnsUsedUp}
use Rattle.blocking_io.specs.Prefixes.{IsCutOff}
use Rattle.connection_io.specs.Turns.{CallTurn, ReadsPiece}
use Rattle.blocking_io.specs.Conversing.{ReceivesPiece}

-- how what the client says to a piece went out: all of it, or a part until a write failed
abbrev pub WritesSayings : {C : Type 0} → (C → IoCall → C → Type 0) → Result (Option Event) ConverseFault → C → List ℕ → C → Type 0
WritesSayings does (Err Write) a bytes b = SendsUntilFault does a bytes b
WritesSayings does _ a bytes b = Sends does a bytes b

-- A piece came, in one read: it was fed to the client, and what the client says to it went out
-- before any other call.
pub record TakesReply {C : Type 0} (does : C → IoCall → C → Type 0) (old : Client) (a : C) (answer : Result (Option Event) ConverseFault) (turn : CallTurn)
    (new : Client) (b : C) : Type 0 where
  pub middle : C
  pub reads : ReadsPiece does a turn.piece middle
  pub writes : WritesSayings does answer middle turn.output b
  pub heard : ReceivesPiece old turn.piece answer new turn.output

-- A turn, by its answer: an event or none came of a piece, or something failed. The end and a read
-- that failed leave the client alone.
abbrev pub ReceivesTurn : {C : Type 0} → (C → IoCall → C → Type 0) → Client → C → Result (Option Event) ConverseFault → Client → C → Type 0
ReceivesTurn does old a (Err Ended) new b = does a (Read 65536 []) b × (new ≡ old)
ReceivesTurn does old a (Err read_fault) new b = does a ReadFails b × (new ≡ old)
ReceivesTurn does old a answer new b = (turn : CallTurn) × TakesReply does old a answer turn new b

-- turns one after another, none of which brought an event or a fault
abbrev pub ConversingGoesOn : {C : Type 0} → (C → IoCall → C → Type 0) → Client → C → List CallTurn → Client → C → Type 0
ConversingGoesOn {C = C} does old a turns new b = FoldsTo {P = Client × C} (λ p turn q. TakesReply does p.0 p.1 (Ok None) turn q.0 q.1) (old, a) turns (new, b)

-- the last turn after so many, of which there may be `turns`
abbrev pub EndsConversing : {C : Type 0} → (C → IoCall → C → Type 0) → ℕ → ℕ → Client → C → Result Event ConverseFault → Client → C → Type 0
EndsConversing does turns count old a (Ok event) new b = (count < turns) × ReceivesTurn does old a (Ok (Some event)) new b
EndsConversing does turns count old a (Err TurnsUsedUp) new b = (count ≡ turns) × (new ≡ old) × (b ≡ a)
EndsConversing does turns count old a (Err e) new b = (count < turns) × ReceivesTurn does old a (Err e) new b

-- Turn after turn, each with a read of its own: those that left the client waiting, and the last.
-- There is no call after it.
pub record ReceivesTurns {C : Type 0} (does : C → IoCall → C → Type 0) (turns : ℕ) (old : Client) (a : C) (result : Result Event ConverseFault) (new : Client)
    (b : C) : Type 0 where
  pub before : List CallTurn
  pub client : Client
  pub middle : C
  pub begun : ConversingGoesOn does old a before client middle
  pub ends : EndsConversing does turns (length before) client middle result new b

-- There was no memory for a piece, and no call was made; or a write of the first bytes failed, and
-- none was read.
abbrev pub NeverReceivesOver : {C : Type 0} → (C → IoCall → C → Type 0) → Client → List ℕ → C → Result Event ConverseFault → Client → C → Type 0
NeverReceivesOver does old first a (Err Memory) new b = (new ≡ old) × (b ≡ a)
NeverReceivesOver does old first a (Err Write) new b = (new ≡ old) × (sent : List ℕ) × IsCutOff sent first × SendsUntilFault does a sent b
NeverReceivesOver does old first a _ new b = ⊥

-- the first bytes were written, and then turn after turn was made
abbrev pub ConversesOver : {C : Type 0} → (C → IoCall → C → Type 0) → Client → List ℕ → C → ℕ → Result Event ConverseFault → Client → C → Type 0
ConversesOver {C = C} does old first a turns result new b = NeverReceivesOver does old first a result new b
    ⊎ ((m : C) × Sends does a first m × ReceivesTurns does turns old m result new b)
