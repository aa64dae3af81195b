-- What the calls on a client's handle do.
use Rattle.std.specs.Prelude.{◌≡◌, ◌≢◌, ◌⊎◌, ◌<◌, ◌^◌, ℕ, List, [], ◌∷◌, length, Bool, Option, None, Some, Result}
use Rattle.pir_schemes.specs.Schemes.{scheme_byte}
use Rattle.client_core.specs.declared.state.Event.{Event}
use Rattle.client_core.specs.declared.state.Event.TheVariants as event
use Rattle.client_core.specs.declared.state.ServerInfo.{ServerInfo}
use Rattle.pir_schemes.specs.Plans.{client_profile}
use Rattle.client_core.specs.States.{fresh_in}
use Rattle.client_core.specs.Calls.{ClientCall}
use Rattle.hint_file.specs.Files.{plan_bytes}
use Rattle.foreign_sessions.specs.declared.client.ClientSession.{ClientSession}
use Rattle.foreign_sessions.specs.declared.client.SessionFault.{SessionFault}
use Rattle.foreign_sessions.specs.declared.client.FeedFault.{FeedFault}
use Rattle.foreign_sessions.specs.declared.client.ResumeFault.{ResumeFault}
use Rattle.foreign_sessions.specs.Clients.{CallsClient, FeedsClientSession, hint_file_of, event_record, record_given, later_events}
use Rattle.foreign_sessions.specs.Clients as session
use Rattle.vulandrai_c.specs.ClientCodes.{session_code, feed_code, resume_code}
use Rattle.vulandrai_c.specs.declared.reported.ReportedEvent.{ReportedEvent}
use Rattle.vulandrai_c.specs.declared.reported.ReportedServer.{ReportedServer}

-- a client of wide stores or of ordinary ones that was just made, with nothing waiting
abbrev pub IsFresh : Bool → Option ClientSession → List ℕ → ℕ → Type 0
IsFresh wide None seed number = ⊥
IsFresh wide (Some s) seed number = (s.core ≡ record { state = fresh_in (client_profile wide) seed number; reader = Some [] }) × (s.waiting.items ≡ []) × (s.events.items ≡ [])

-- what opening did: there is a fresh client; or the number is too large (33), or memory is refused
-- (5), and the handle is as before
abbrev pub OpensClientWithCode : Bool → Option ClientSession → List ℕ → ℕ → Option ClientSession → ℕ → Type 0
OpensClientWithCode wide old seed number new code =
    ((code ≡ 0) × IsFresh wide new seed number) ⊎ ((code ≡ 33) × (2 ^ 62 < number) × (new ≡ old)) ⊎ ((code ≡ 5) × (new ≡ old))

-- what a call of the client did, and the code of its answer
pub record CallsClientWithCode (old : ClientSession) (want : ClientCall) (new : ClientSession) (code : ℕ) : Type 0 where
  pub answer : Result (Unit {0}) SessionFault
  pub code_is : code ≡ session_code answer
  pub did : CallsClient old want answer new

-- what a piece of the server's stream did, and the code of its answer
pub record FeedsClientWithCode (old : ClientSession) (bytes : List ℕ) (new : ClientSession) (code : ℕ) : Type 0 where
  pub answer : Result (Unit {0}) FeedFault
  pub code_is : code ≡ feed_code answer
  pub did : FeedsClientSession old bytes answer new

-- the bytes that wait to be sent, none if there is no client
abbrev pub waiting_of : Option ClientSession → List ℕ
waiting_of None = []
waiting_of (Some s) = s.waiting.items

-- all the bytes that waited were taken; or there is room for another number of bytes (35), and
-- nothing changed
abbrev pub TakesWaiting : ClientSession → ClientSession → List ℕ → List ℕ → ℕ → Type 0
TakesWaiting old new before after code =
    ((code ≡ 0) × (after ≡ old.waiting.items) × (new.waiting.items ≡ []) × (new.core ≡ old.core) × (new.events ≡ old.events))
    ⊎ ((code ≡ 35) × (length before ≢ length old.waiting.items) × (after ≡ before) × (new ≡ old))

-- the first event's record was copied and the event forgotten; or there is room for another number
-- of bytes (35), and nothing changed
abbrev pub TakesEvent : ClientSession → ClientSession → List ℕ → List ℕ → ℕ → Type 0
TakesEvent old new before after code =
    ((code ≡ 0) × (after ≡ record_given old.events.items) × (new.events.items ≡ later_events old.events.items) × (new.core ≡ old.core)
    × (new.waiting ≡ old.waiting))
    ⊎ ((code ≡ 35) × (length before ≢ length (record_given old.events.items)) × (after ≡ before) × (new ≡ old))

-- the file of the hint that a client holds, none if there is no client
abbrev pub hint_file_in : Option ClientSession → List ℕ
hint_file_in None = []
hint_file_in (Some s) = hint_file_of s.core.state

-- the whole file of the hint held was copied; or memory was refused (5); or there is room for
-- another number of bytes (35)
abbrev pub CopiesHint : ClientSession → List ℕ → List ℕ → ℕ → Type 0
CopiesHint s before after code =
    ((code ≡ 0) × (after ≡ hint_file_of s.core.state)) ⊎ ((code ≡ 5) × (after ≡ before))
    ⊎ ((code ≡ 35) × (length before ≢ length (hint_file_of s.core.state)) × (after ≡ before))

-- what a call for the bytes that say which store the server's is did: the server has not let
-- this client in yet (1), or there is room for another number of bytes than 41 (35), and nothing was
-- written; or they were written
abbrev pub CopiesPlan : Option ServerInfo → List ℕ → List ℕ → ℕ → Type 0
CopiesPlan None before after code = (code ≡ 1) × (after ≡ before)
CopiesPlan (Some known) before after code =
    ((code ≡ 0) × (length before ≡ 41) × (after ≡ plan_bytes known.plan))
    ⊎ ((code ≡ 35) × (length before ≢ 41) × (after ≡ before))

-- what the bytes of a hint's file did, and the code of the answer
pub record ResumesWithCode (old : ClientSession) (bytes : List ℕ) (new : ClientSession) (code : ℕ) : Type 0 where
  pub answer : Result Bool ResumeFault
  pub code_is : code ≡ resume_code answer
  pub did : session.Resumes old bytes answer new

-- the number of an event's kind; 0 is kept for no event
abbrev pub event_kind : Event → ℕ
event_kind (event.Welcomed v) = 1
event_kind (event.Synced s v) = 2
event_kind (event.Retrieved i v bytes) = 3
event_kind (event.Unreadable i v) = 4
event_kind (event.Stale v) = 5
event_kind (event.Done v) = 6
event_kind (event.Refused c) = 7

-- the byte of an event's scheme, or the code of the server's refusal
abbrev pub event_detail : Event → ℕ
event_detail (event.Synced s v) = scheme_byte s
event_detail (event.Refused c) = c
event_detail _ = 0

-- the index of an event's record
abbrev pub event_index : Event → ℕ
event_index (event.Retrieved i v bytes) = i
event_index (event.Unreadable i v) = i
event_index _ = 0

-- an event's version
abbrev pub event_version : Event → ℕ
event_version (event.Welcomed v) = v
event_version (event.Synced s v) = v
event_version (event.Retrieved i v bytes) = v
event_version (event.Unreadable i v) = v
event_version (event.Stale v) = v
event_version (event.Done v) = v
event_version (event.Refused c) = 0

-- an event as C reads it
pub record IsEventInC (e : Event) (out : ReportedEvent) : Type 0 where
  pub kind : out.kind ≡ event_kind e
  pub detail : out.detail ≡ event_detail e
  pub index : out.index ≡ event_index e
  pub reserved : out.reserved ≡ 0
  pub version : out.version ≡ event_version e
  pub record_len : out.record_len ≡ length (event_record e)

-- the first of these events as C reads it, with all fields 0 if there is none
abbrev pub IsFirstEventInC : List Event → ReportedEvent → Type 0
IsFirstEventInC [] out = out ≡ record { kind = 0; detail = 0; index = 0; reserved = 0; version = 0; record_len = 0 }
IsFirstEventInC (e ∷ es) out = IsEventInC e out

-- what the server reported of its store as C reads it, all 0 before it let the client in
abbrev pub reported_server : Option ServerInfo → ReportedServer
reported_server None = record { version = 0; count = 0; form = 0; record_len = 0; dimension = 0 }
reported_server (Some k) = record {
  version = k.version;
  count = k.count;
  form = k.plan.form;
  record_len = k.plan.record_len;
  dimension = k.plan.dimension;
}
