-- What a client does with a call.
use Rattle.std.specs.Prelude.{◌≡◌, ◌+◌, ◌^◌, ℕ, List, [], cond, Bool, true, false, Option, Some, None, is_some, nat_lt, if◌then◌else◌, ◌⊎◌}
use Rattle.frame_codec.specs.declared.frame.Frame.{Frame}
use Rattle.frame_codec.specs.declared.frame.Frame.TheVariants as frame
use Rattle.frame_codec.specs.Frames.{IsFrame, encoding}
use Rattle.digit_pack.specs.Layout.{is_wide}
use Rattle.pir_schemes.specs.declared.scheme.Scheme.{Scheme}
use Rattle.pir_schemes.specs.Schemes.{scheme_byte}
use Rattle.pir_schemes.specs.Retrievals.{query_words}
use Rattle.client_core.specs.declared.state.ClientState.{ClientState}
use Rattle.client_core.specs.declared.state.ServerInfo.{ServerInfo}
use Rattle.client_core.specs.declared.state.Call.{Call}
use Rattle.client_core.specs.declared.state.Call.TheVariants as call
use Rattle.client_core.specs.declared.state.CallFault.{CallFault}
use Rattle.client_core.specs.declared.state.CallFault.TheVariants.{NotReady, Busy, BadIndex, SeedUsedUp, Memory, Failed, AlreadyWelcome}
use Rattle.client_core.specs.States.{shape_known, is_idle, is_ready, known_version, known_count, scheme_held, delta_base}

-- a call, with what the caller gives it
pub data ClientCall : Type 0 where
  Hello : (key : List ℕ) → ClientCall
  Sync : (scheme : Scheme) → ClientCall
  Ask : (index : ℕ) → ClientCall
  Edit : (index : ℕ) (bytes : List ℕ) → ClientCall
  Append : (bytes : List ℕ) → ClientCall
  Publish : ClientCall

-- the checks of hello
abbrev pub hello_refusal : ClientState → Option CallFault
hello_refusal c = if c.failed then Some Failed else (if is_some c.known then Some AlreadyWelcome else (if is_idle c.call then None else Some Busy))

-- the checks that sync, edit, append and publish have in common: the first that applies refuses
abbrev pub change_refusal : ClientState → Option CallFault
change_refusal c = if c.failed then Some Failed else (if is_some c.known then (if is_idle c.call then None else Some Busy) else Some NotReady)

-- the first check that applies refuses a call
abbrev pub call_refusal : ClientCall → ClientState → Option CallFault
call_refusal (Hello key) c = hello_refusal c
call_refusal (Ask i) c =
    if c.failed then Some Failed
    else (if is_ready c.known c.hint then (
    if is_idle c.call then (
    if nat_lt i (known_count c.known) then (
    if nat_lt c.number (2 ^ 62) then None else Some SeedUsedUp) else Some BadIndex) else Some Busy) else Some NotReady)
call_refusal _ c = change_refusal c

-- the call that asks for what changed since a version: for records in a wide store, for rows of the
-- hint in an ordinary one
abbrev pub call_since : Bool → ℕ → Call
call_since wide since = cond wide (call.Changes since) (call.Delta since)

-- a sync begins: by what changed since a version, and the hint is kept meanwhile, for records in a
-- wide store, for rows of the hint in an ordinary one; or by the parts of the hint of the last
-- version known, and the hint held is dropped
abbrev pub sync_begun : Option ℕ → Scheme → ClientState → ClientState
sync_begun (Some since) scheme c = record c { call = cond (is_wide c.profile) (call.Changes since) (call.Delta since) }
sync_begun None scheme c = record c { call = call.Sync scheme (known_version c.known) 0; hint = None; parts = [] }

-- the state after an accepted call
abbrev pub state_after_call : ClientCall → ClientState → ClientState
state_after_call (Hello key) c = record c { call = call.Hello }
state_after_call (Sync scheme) c = sync_begun (delta_base scheme c.hint) scheme c
state_after_call (Ask i) c = record c { call = call.Ask i (known_version c.known) c.number; number = c.number + 1 }
state_after_call (Edit i bytes) c = record c { call = call.Edit }
state_after_call (Append bytes) c = record c { call = call.Append }
state_after_call Publish c = record c { call = call.Publish }

-- the state after a call that passed its checks and found no memory: only the number of a retrieval
-- is spent
abbrev pub spent : ClientCall → ClientState → ClientState
spent (Ask i) c = record c { number = c.number + 1 }
spent _ c = c

-- the words of the query for a record; none before the Welcome
abbrev pub call_words : Option ServerInfo → Scheme → List ℕ → ℕ → ℕ → List ℕ
call_words None scheme seed number i = []
call_words (Some k) scheme seed number i = query_words scheme (shape_known k) k.plan.dimension k.plan.seed seed number i

-- the frame that asks for what changed since a version: for records in a wide store, for rows of
-- the hint in an ordinary one
abbrev pub frame_since : Bool → ℕ → Frame
frame_since wide since = cond wide (frame.ChangesAsk since) (frame.DeltaAsk since)

-- the first frame of a sync: it asks for what changed since a version, for records or for rows; or
-- for the first part of the hint of the last version known
abbrev pub sync_frame : Option ℕ → Scheme → ClientState → Frame
sync_frame (Some since) scheme c = cond (is_wide c.profile) (frame.ChangesAsk since) (frame.DeltaAsk since)
sync_frame None scheme c = frame.HintAsk (scheme_byte scheme) (known_version c.known) 0

-- the frame that an accepted call sends
abbrev pub call_frame : ClientCall → ClientState → Frame
call_frame (Hello key) c = frame.Hello c.profile key
call_frame (Sync scheme) c = sync_frame (delta_base scheme c.hint) scheme c
call_frame (Ask i) c =
    frame.Query (scheme_byte (scheme_held c.hint)) (known_version c.known) (call_words c.known (scheme_held c.hint) c.seed c.number i)
call_frame (Edit i bytes) c = frame.Edit i bytes
call_frame (Append bytes) c = frame.Append bytes
call_frame Publish c = frame.Publish

-- an accepted call: no check refuses it, and the bytes to send are its frame's
pub record Accepts (old : ClientState) (want : ClientCall) (new : ClientState) (bytes : List ℕ) : Type 0 where
  pub may : call_refusal want old ≡ None
  pub state : new ≡ state_after_call want old
  pub written : bytes ≡ encoding (call_frame want old)
  pub fits : IsFrame (call_frame want old)

-- a refused call: by the first check that applies, and nothing changes; or memory was refused
abbrev pub Refuses : ClientState → ClientCall → CallFault → ClientState → Type 0
Refuses old want fault new =
    ((call_refusal want old ≡ Some fault) × (new ≡ old)) ⊎ ((fault ≡ Memory) × (call_refusal want old ≡ None) × (new ≡ spent want old))
