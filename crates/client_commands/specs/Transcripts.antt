-- What a command sends and receives, step by step.
use Rattle.std.specs.Prelude.{◌≡◌, ◌≤◌, ◌<◌, ◌⊎◌, ℕ, List, [], ◌∷◌, ◌++◌, Option, Some, None, Result, Ok, Err, replicate}
use Rattle.std.specs.Io.KnownBytes.{Consumes}
use Rattle.std.specs.declared.vec.Vec.{Vec}
use Rattle.std.specs.declared.alloc.Global.{Global}
use Rattle.client_core.specs.declared.state.ServerInfo.{ServerInfo}
use Rattle.client_core.specs.declared.state.CallFault.{CallFault}
use Rattle.client_core.specs.declared.state.Event.{Event}
use Rattle.client_core.specs.declared.state.Event.TheVariants as event
use Rattle.client_core.specs.Calls.{ClientCall, Hello, Sync, Ask, Edit, Append, Publish, Accepts, Refuses}
use Rattle.client_core.specs.Feeding.{Client}
use Rattle.pir_schemes.specs.declared.scheme.Scheme.{Scheme}
use Rattle.blocking_io.specs.Conversing.{Converses}
use Rattle.client_commands.specs.declared.fault.CommandError.{CommandError}
use Rattle.client_commands.specs.declared.fault.CommandError.TheVariants.{Refused, Stale, Unreadable, ShortSecrets, Call, Conversation}
use Rattle.client_commands.specs.declared.commands.Retrieved.{Retrieved}

-- the most reads of one call
abbrev pub most_reads : ℕ
most_reads = 1000000

-- the event says nothing against its call: no refusal, no other current version, no record that
-- can't be read
abbrev pub IsSuccess : Event → Type 0
IsSuccess (event.Refused code) = ⊥
IsSuccess (event.Stale version) = ⊥
IsSuccess (event.Unreadable index version) = ⊥
IsSuccess _ = Unit {0}

-- What came of a call's bytes: the conversation over them came to an event, which is the answer, or
-- is reported as what it says against the call; or it failed
abbrev pub Answers : Client → List ℕ → Result Event CommandError → List ℕ → List ℕ → Option (List ℕ) → Client → Type 0
Answers called first (Ok event) read out left new = IsSuccess event × Converses called first most_reads (Ok event) read out left new
Answers called first (Err (Refused code)) read out left new = Converses called first most_reads (Ok (event.Refused code)) read out left new
Answers called first (Err (Stale version)) read out left new = Converses called first most_reads (Ok (event.Stale version)) read out left new
Answers called first (Err (Unreadable index version)) read out left new =
    Converses called first most_reads (Ok (event.Unreadable index version)) read out left new
Answers called first (Err (ShortSecrets dimension)) read out left new = ⊥
Answers called first (Err (Call fault)) read out left new = ⊥
Answers called first (Err (Conversation fault)) read out left new = Converses called first most_reads (Err fault) read out left new

-- what an event says against its call, as a command's failure
abbrev pub failure_of_event : Event → Option CommandError
failure_of_event (event.Refused code) = Some (Refused code)
failure_of_event (event.Stale version) = Some (Stale version)
failure_of_event (event.Unreadable index version) = Some (Unreadable index version)
failure_of_event _ = None

-- What came of what a client gave for a call: its bytes are answered, or its refusal is reported,
-- and then nothing is read or written
abbrev pub AnswersCall : Client → Result (Vec ℕ Global) CallFault → Result Event CommandError → List ℕ → List ℕ → Option (List ℕ) → Client → Type 0
AnswersCall called (Ok first) result read out left new = Answers called first.items result read out left new
AnswersCall called (Err fault) result read out left new = (result ≡ Err (Call fault)) × (read ≡ []) × (out ≡ []) × (new ≡ called)

-- a call that the client accepted, and what came of its bytes
pub record Exchanges (old : Client) (want : ClientCall) (result : Result Event CommandError) (read out : List ℕ) (left : Option (List ℕ)) (new : Client) :
    Type 0 where
  pub called : Client
  pub first : List ℕ
  pub accepted : Accepts old.state want called.state first
  pub reader : called.reader ≡ old.reader
  pub answered : Answers called first result read out left new

-- a call that the client refused: nothing was read or written for it
pub record RefusesCall (old : Client) (want : ClientCall) (fault : CallFault) (read out : List ℕ) (new : Client) : Type 0 where
  pub refused : Refuses old.state want fault new.state
  pub reader : new.reader ≡ old.reader
  pub unread : read ≡ []
  pub unwritten : out ≡ []

-- what came of a call
abbrev pub ComesTo : Client → ClientCall → Result Event CommandError → List ℕ → List ℕ → Option (List ℕ) → Client → Type 0
ComesTo old want (Err (Call fault)) read out left new = RefusesCall old want fault read out new
ComesTo old want result read out left new = Exchanges old want result read out left new

-- what a command does in its turn: a call, or a look at the length of the server's secrets, which
-- is to be this one at least
pub data CommandStep : Type 0 where
  Calls : (want : ClientCall) → CommandStep
  Judges : (least : ℕ) → CommandStep

-- how many words a secret has by the Welcome, 0 before it
abbrev pub secret_len : Option ServerInfo → ℕ
secret_len None = 0
secret_len (Some k) = k.plan.dimension

-- nothing was read or written, and the client is as it was
abbrev pub IsStill : Client → List ℕ → List ℕ → Client → Type 0
IsStill old read out new = (read ≡ []) × (out ≡ []) × (new ≡ old)

-- a step that was done
abbrev pub Passes : Client → CommandStep → List ℕ → List ℕ → Option (List ℕ) → Client → Type 0
Passes old (Calls want) read out left new = (event : Event) × ComesTo old want (Ok event) read out left new
Passes old (Judges least) read out left new = (least ≤ secret_len old.state.known) × IsStill old read out new

-- a step with which a command ended
abbrev pub EndsWith : Client → CommandStep → Result Event CommandError → List ℕ → List ℕ → Option (List ℕ) → Client → Type 0
EndsWith old (Calls want) result read out left new = ComesTo old want result read out left new
EndsWith old (Judges least) (Err (ShortSecrets dimension)) read out left new =
    (dimension ≡ secret_len old.state.known) × (dimension < least) × IsStill old read out new
EndsWith old (Judges least) _ read out left new = ⊥

-- an answer is that of the last step, and a failure may come at any
abbrev pub IsLastOf : List CommandStep → Result Event CommandError → Type 0
IsLastOf later (Ok event) = later ≡ []
IsLastOf later (Err fault) = Unit {0}

-- Steps one after another: the last one made ended the command, those before it were done. What was
-- read and written is theirs, in their order.
unfoldable pub Transacts : Client → List CommandStep → Result Event CommandError → List ℕ → List ℕ → Option (List ℕ) → Client → Type 0
Transacts old [] result read out left new = ⊥
Transacts old (step ∷ later) result read out left new =
    (IsLastOf later result × EndsWith old step result read out left new)
    ⊎ ((mid : Client) × (read1 : List ℕ) × (read2 : List ℕ) × (out1 : List ℕ) × (out2 : List ℕ) × (left1 : Option (List ℕ))
    × Consumes left1 left read2 × (read ≡ read1 ++ read2) × (out ≡ out1 ++ out2)
    × Passes old step read1 out1 left1 mid × Transacts mid later result read2 out2 left new)

-- ---- the commands

-- a retrieval: hello as a reader, a look at the secrets' length, sync, ask
abbrev pub get_steps : ℕ → Scheme → ℕ → List CommandStep
get_steps least scheme index = Calls (Hello (replicate 32 0)) ∷ (Judges least ∷ (Calls (Sync scheme) ∷ (Calls (Ask index) ∷ [])))

-- an edit: hello with the publisher's key, edit
abbrev pub edit_steps : List ℕ → ℕ → List ℕ → List CommandStep
edit_steps key index bytes = Calls (Hello key) ∷ (Calls (Edit index bytes) ∷ [])

-- the addition of a record: hello with the publisher's key, append
abbrev pub append_steps : List ℕ → List ℕ → List CommandStep
append_steps key bytes = Calls (Hello key) ∷ (Calls (Append bytes) ∷ [])

-- a publication: hello with the publisher's key, publish
abbrev pub publish_steps : List ℕ → List CommandStep
publish_steps key = Calls (Hello key) ∷ (Calls Publish ∷ [])

-- the event has this record
abbrev pub IsRecordAsked : ℕ → Event → Type 0
IsRecordAsked asked (event.Retrieved index version bytes) = index ≡ asked
IsRecordAsked asked _ = ⊥

-- the event reports a version as done
abbrev pub IsDoneVersion : Event → Type 0
IsDoneVersion (event.Done version) = Unit {0}
IsDoneVersion _ = ⊥

-- a record that was answered, as the event that reported it
abbrev pub as_retrieved : Result Retrieved CommandError → Result Event CommandError
as_retrieved (Ok r) = Ok (event.Retrieved r.index r.version r.bytes)
as_retrieved (Err fault) = Err fault

-- a version that was answered, as the event that reported it
abbrev pub as_done : Result ℕ CommandError → Result Event CommandError
as_done (Ok version) = Ok (event.Done version)
as_done (Err fault) = Err fault
