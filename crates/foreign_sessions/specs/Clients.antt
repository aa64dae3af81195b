-- What a session does with the calls of its client, and what waits in it.
use Rattle.std.specs.Prelude.{◌≡◌, ◌≢◌, ◌<◌, ◌+◌, ℕ, List, [], ◌∷◌, length, Bool, Option, None, Some, Result, Ok, Err}
use Rattle.client_core.specs.declared.state.Event.{Event}
use Rattle.client_core.specs.declared.state.Event.TheVariants as event
use Rattle.client_core.specs.declared.state.ClientState.{ClientState}
use Rattle.client_core.specs.declared.state.ServerInfo.{ServerInfo}
use Rattle.client_core.specs.declared.state.Hint.{Hint}
use Rattle.client_core.specs.declared.state.CallFault.{CallFault}
use Rattle.client_core.specs.declared.resuming.SavedClient.{SavedClient}
use Rattle.client_core.specs.Resuming.{IsResumed}
use Rattle.client_core.specs.Calls.{ClientCall, Accepts, Refuses}
use Rattle.client_core.specs.Feeding.{FeedsClient}
use Rattle.hint_file.specs.declared.heads.HintError.TheVariants.{Damaged, Read, Memory}
use Rattle.hint_file.specs.Files.{plan_bytes, hint_bytes, IsKeepable}
use Rattle.foreign_sessions.specs.declared.client.ClientSession.{ClientSession}
use Rattle.foreign_sessions.specs.declared.client.ResumeFault.{ResumeFault}
use Rattle.foreign_sessions.specs.declared.client.ResumeFault.TheVariants as resume
use Rattle.foreign_sessions.specs.declared.client.SessionFault.{SessionFault}
use Rattle.foreign_sessions.specs.declared.client.SessionFault.TheVariants as call
use Rattle.foreign_sessions.specs.declared.client.FeedFault.{FeedFault}
use Rattle.foreign_sessions.specs.declared.client.FeedFault.TheVariants as piece

-- how many bytes and events wait to be taken
abbrev pub untaken : ClientSession → ℕ
untaken s = length s.waiting.items + length s.events.items

-- what a call did to a session, as its answer says: no bytes waited, and those of the accepted call
-- wait now; or bytes waited, and nothing changed; or the client refused it, and what waits stayed
abbrev pub CallsClient : ClientSession → ClientCall → Result (Unit {0}) SessionFault → ClientSession → Type 0
CallsClient old want (Ok done) new =
    (length old.waiting.items ≡ 0) × Accepts old.core.state want new.core.state new.waiting.items
    × (new.core.reader ≡ old.core.reader) × (new.events ≡ old.events)
CallsClient old want (Err call.Untaken) new = (0 < length old.waiting.items) × (new ≡ old)
CallsClient old want (Err (call.Call fault)) new =
    (length old.waiting.items ≡ 0) × Refuses old.core.state want fault new.core.state
    × (new.core.reader ≡ old.core.reader) × (new.waiting ≡ old.waiting) × (new.events ≡ old.events)

-- what a piece did to a session, as its answer says: nothing waited, and what the client gave waits
-- now, also if it stopped; or something waited, and nothing changed
abbrev pub FeedsClientSession : ClientSession → List ℕ → Result (Unit {0}) FeedFault → ClientSession → Type 0
FeedsClientSession old bytes (Ok done) new =
    (untaken old ≡ 0) × FeedsClient old.core bytes new.waiting.items new.events.items None new.core
FeedsClientSession old bytes (Err piece.Untaken) new = (0 < untaken old) × (new ≡ old)
FeedsClientSession old bytes (Err (piece.Client fault)) new =
    (untaken old ≡ 0) × FeedsClient old.core bytes new.waiting.items new.events.items (Some fault) new.core

-- the file of the hint held, with what the server reported last; no byte if there is none
abbrev pub file_of : Option ServerInfo → Option Hint → List ℕ
file_of None hint = []
file_of (Some known) None = []
file_of (Some known) (Some hint) = hint_bytes known hint

-- the file of the hint that a client holds
abbrev pub hint_file_of : ClientState → List ℕ
hint_file_of c = file_of c.known c.hint

-- the bytes that say which store the server's is, as far as it reported one
abbrev pub plan_bytes_of : Option ServerInfo → Option (List ℕ)
plan_bytes_of None = None
plan_bytes_of (Some known) = Some (plan_bytes known.plan)

-- what is saved of a client in a hint's file, with the number that this one has
abbrev pub saved_in : ClientState → ServerInfo → Hint → SavedClient
saved_in c known hint = record { number = c.number; known = Some known; hint = Some hint }

-- what waits in a session stayed, and so did the bytes of an unfinished frame
pub record KeepsWaiting (old new : ClientSession) : Type 0 where
  pub reader : new.core.reader ≡ old.core.reader
  pub waiting : new.waiting ≡ old.waiting
  pub events : new.events ≡ old.events

-- these bytes are the file of a hint, with which a client was resumed with this answer
pub record ResumesFrom (old : ClientSession) (bytes : List ℕ) (answer : Result Bool CallFault) (new : ClientSession) : Type 0 where
  pub known : ServerInfo
  pub hint : Hint
  pub file : bytes ≡ hint_bytes known hint
  pub resumed : IsResumed old.core.state (saved_in old.core.state known hint) answer new.core.state
  pub waits : KeepsWaiting old new

-- what bytes did to a session, as its result says: the client went on with the hint of the file
-- that they are, or left it; or they are no such file; or memory was refused; or the client refused
-- it. What waits stayed
abbrev pub Resumes : ClientSession → List ℕ → Result Bool ResumeFault → ClientSession → Type 0
Resumes old bytes (Ok held) new = ResumesFrom old bytes (Ok held) new
Resumes old bytes (Err (resume.File Damaged)) new =
    ((known : ServerInfo) (hint : Hint) → IsKeepable known hint → bytes ≢ hint_bytes known hint) × (new ≡ old)
Resumes old bytes (Err (resume.File Read)) new = new ≡ old
Resumes old bytes (Err (resume.File Memory)) new = new ≡ old
Resumes old bytes (Err (resume.Call fault)) new = ResumesFrom old bytes (Err fault) new

-- the bytes of the record that an event gives, none if it gives no record
abbrev pub event_record : Event → List ℕ
event_record (event.Retrieved i v bytes) = bytes
event_record _ = []

-- the bytes of the record that the first of these events gives
abbrev pub record_given : List Event → List ℕ
record_given [] = []
record_given (e ∷ es) = event_record e

-- these events without the first
abbrev pub later_events : List Event → List Event
later_events [] = []
later_events (e ∷ es) = es
