-- What is done over a connection, turn by turn.
use Rattle.std.specs.Prelude.{◌≡◌, ◌<◌, ◌⊎◌, ℕ, List, [], ◌++◌, length, take, Bool, true, false, Option, Some, Result, Ok, Err}
use Rattle.std.specs.List.{FoldsTo}
use Rattle.connection_io.specs.Calls.{IoCall, Read, ReadFails, Sends, SendsUntilFault}
use Rattle.connection_io.specs.Turns.{CallTurn, ReadsPiece}
use Rattle.frame_codec.specs.declared.frame.Frame.{Frame}
use Rattle.frame_codec.specs.declared.reader.ReadFault.{ReadFault}
use Rattle.once_session.specs.Courses.{replies_to, stage_after, encodings}
use Rattle.once_session.specs.declared.stage.Stage.{Stage}
use Rattle.once_session.specs.declared.stage.Stage.TheVariants.{Fresh}
use Rattle.once_session.specs.declared.engine.OnceFault.{OnceFault}
use Rattle.once_session.specs.declared.engine.OnceFault.TheVariants as fault
use Rattle.once_session.specs.Outputs.{takes_frames, is_finished, IsWithoutStreamFault, Turns, Finishes}

-- bytes that went out before a fault: a write failed after them, or another fault came
abbrev pub SendsBefore : {C : Type 0} → (C → IoCall → C → Type 0) → OnceFault → C → List ℕ → C → Type 0
SendsBefore does fault.Write a bytes b = SendsUntilFault does a bytes b
SendsBefore does _ a bytes b = Sends does a bytes b

-- how replies went out: all of them, or those before a fault
abbrev pub WritesWorkReplies : {C : Type 0} → (C → IoCall → C → Type 0) → Result (Unit {0}) OnceFault → C → List ℕ → C → Type 0
WritesWorkReplies does (Ok done) a bytes b = Sends does a bytes b
WritesWorkReplies does (Err e) a bytes b = SendsBefore does e a bytes b

-- memory was refused for one of some frames: the replies to those before it went out, and no more,
-- and they left the work open
abbrev pub LacksMemoryForFrame : {C : Type 0} → (C → IoCall → C → Type 0) → List Frame → Stage → C → Stage → C → Type 0
LacksMemoryForFrame does frames old a new b =
    (count : ℕ) × (count < length frames) × Sends does a (encodings (replies_to old (take count frames))) b
    × (new ≡ stage_after old (take count frames)) × (takes_frames new ≡ true)

-- memory was refused for one of the frames that were read, or for the reading after them, of which
-- no fault was found
abbrev pub LacksMemory : {C : Type 0} → (C → IoCall → C → Type 0) → Result (Unit {0}) ReadFault → List Frame → Stage → C → Stage → C → Type 0
LacksMemory does read frames old a new b =
    LacksMemoryForFrame does frames old a new b ⊎ (Sends does a (encodings (replies_to old frames)) b × IsWithoutStreamFault read)

-- how far the work has come: its stage, and the bytes of an unfinished frame
pub record Work : Type 0 where
  pub stage : Stage
  pub unfinished : List ℕ

-- nothing has come
abbrev pub fresh_work : Work
fresh_work = record { stage = Fresh; unfinished = [] }

-- A piece came, in one read: it was served, and the replies went out before any other call.
pub record TakesWorkPiece {C : Type 0} (does : C → IoCall → C → Type 0) (old : Work) (a : C) (answer : Result (Unit {0}) OnceFault) (turn : CallTurn)
    (new : Stage) (codec : Option (List ℕ)) (b : C) : Type 0 where
  pub middle : C
  pub reads : ReadsPiece does a turn.piece middle
  pub writes : WritesWorkReplies does answer middle turn.output b
  pub turned : Turns answer old.stage (old.unfinished ++ turn.piece) new codec turn.output

-- a turn after which the work goes on
pub record LeavesOpen {C : Type 0} (does : C → IoCall → C → Type 0) (old : Work) (a : C) (turn : CallTurn) (new : Work) (b : C) : Type 0 where
  pub takes : TakesWorkPiece does old a (Ok tt) turn new.stage (Some new.unfinished) b
  pub going : takes_frames new.stage ≡ true

-- such turns, one after another
abbrev pub WorkGoesOn : {C : Type 0} → (C → IoCall → C → Type 0) → Work → C → List CallTurn → Work → C → Type 0
WorkGoesOn {C = C} does old a turns new b = FoldsTo {P = Work × C} (λ p turn q. LeavesOpen does p.0 p.1 turn q.0 q.1) (old, a) turns (new, b)

-- the work ended with a piece: well, by a Bye, or not
pub record EndsByPiece {C : Type 0} (does : C → IoCall → C → Type 0) (old : Work) (a : C) (well : Bool) (b : C) : Type 0 where
  pub turn : CallTurn
  pub stage : Stage
  pub codec : Option (List ℕ)
  pub takes : TakesWorkPiece does old a (Ok tt) turn stage codec b
  pub over : takes_frames stage ≡ false
  pub well_is : is_finished stage ≡ well

-- or the stream ended, and what was left of it was answered
pub record EndsByEnd {C : Type 0} (does : C → IoCall → C → Type 0) (old : Work) (a : C) (answer : Result (Unit {0}) OnceFault) (b : C) : Type 0 where
  pub middle : C
  pub reads : does a (Read 65536 []) middle
  pub out : List ℕ
  pub writes : WritesWorkReplies does answer middle out b
  pub finishes : Finishes answer old.unfinished out

-- a fault at a piece or at the end
abbrev pub BreaksOffWork : {C : Type 0} → (C → IoCall → C → Type 0) → Work → C → OnceFault → C → Type 0
BreaksOffWork does old a e b =
    ((turn : CallTurn) × (stage : Stage) × (codec : Option (List ℕ)) × TakesWorkPiece does old a (Err e) turn stage codec b)
    ⊎ EndsByEnd does old a (Err e) b

-- the last turn after so many, of which there may be `turns`
abbrev pub EndsWorkTurns : {C : Type 0} → (C → IoCall → C → Type 0) → ℕ → ℕ → Work → C → Result (Unit {0}) OnceFault → C → Type 0
EndsWorkTurns does turns count old a (Ok done) b = (count < turns) × (EndsByPiece does old a true b ⊎ EndsByEnd does old a (Ok tt) b)
EndsWorkTurns does turns count old a (Err fault.BadInput) b = (count < turns) × (EndsByPiece does old a false b ⊎ EndsByEnd does old a (Err fault.BadInput) b)
EndsWorkTurns does turns count old a (Err fault.Read) b = (count < turns) × does a ReadFails b
EndsWorkTurns does turns count old a (Err fault.Write) b = (count < turns) × BreaksOffWork does old a fault.Write b
EndsWorkTurns does turns count old a (Err fault.Memory) b = (count < turns) × BreaksOffWork does old a fault.Memory b
EndsWorkTurns does turns count old a (Err fault.TurnsUsedUp) b = (count ≡ turns) × (b ≡ a)

-- Turn after turn, each with a read of its own: those that left the work open, and the last. There
-- is no call after it.
pub record ServesWorkTurns {C : Type 0} (does : C → IoCall → C → Type 0) (turns : ℕ) (a : C) (result : Result (Unit {0}) OnceFault) (b : C) : Type 0 where
  pub before : List CallTurn
  pub work : Work
  pub middle : C
  pub begun : WorkGoesOn does fresh_work a before work middle
  pub ends : EndsWorkTurns does turns (length before) work middle result b

-- what all turns did; or memory was refused at the start, and no call was made
abbrev pub ServesWorkOver : {C : Type 0} → (C → IoCall → C → Type 0) → ℕ → C → Result (Unit {0}) OnceFault → C → Type 0
ServesWorkOver does turns a result b = ((result ≡ Err fault.Memory) × (b ≡ a)) ⊎ ServesWorkTurns does turns a result b
