-- Runs of a publisher, a server and clients over links that carry frames byte by byte.
use Rattle.std.specs.Prelude.{◌≡◌, ◌<◌, ◌+◌, ◌-◌, ◌^◌, ◌⊎◌, ℕ, List, [], ◌∷◌, ◌++◌, length, min, map, replicate, All, Bool, true, false, Option, Some, None, slice_set, slice_get, nat_lt, nat_le, ◌==◌, cond, is_some, if◌then◌else◌, option_to_list, fold}
use Rattle.std.specs.List.{flat_map, FoldsTo}
use Rattle.pir_schemes.specs.declared.scheme.Scheme.{Scheme}
use Rattle.pir_schemes.specs.Schemes.{scheme_byte}
use Rattle.digit_pack.specs.Layout.{is_layout, is_wide}
use Rattle.pir_schemes.specs.Plans.{fits, records_held, shape_at, client_profile}
use Rattle.frame_codec.specs.declared.frame.Frame.{Frame}
use Rattle.frame_codec.specs.declared.frame.Frame.TheVariants as frame
use Rattle.frame_codec.specs.declared.refusal.Refusal.TheVariants as refusal
use Rattle.frame_codec.specs.Frames.{encoding}
use Rattle.snapshot_file.specs.declared.snapshot.Header.{Header}
use Rattle.version_store.specs.Openings.{plan_held}
use Rattle.version_store.specs.declared.store.AppendError.TheVariants as append_error
use Rattle.version_store.specs.declared.store.EditError.TheVariants as edit_error
use Rattle.version_store.specs.declared.store.PublishError.TheVariants as publish_error
use Rattle.version_store.specs.Histories.{History, opened, current_version, after_edit, after_append, published}
use Rattle.server_core.specs.declared.standing.Standing.{Standing}
use Rattle.server_core.specs.declared.standing.Standing.TheVariants.{Stranger}
use Rattle.server_core.specs.Serving.{Setting, after_frame, takes_memory, refusal_given, is_closed}
use Rattle.server_core.specs.Serving.{AfterFrame}
use Rattle.client_core.specs.declared.state.ClientState.{ClientState}
use Rattle.client_core.specs.declared.state.Call.{Call}
use Rattle.client_core.specs.declared.state.Call.TheVariants as call
use Rattle.client_core.specs.declared.state.CallFault.{CallFault}
use Rattle.client_core.specs.declared.state.Event.{Event}
use Rattle.client_core.specs.declared.state.Reaction.{Reaction}
use Rattle.client_core.specs.declared.state.Reaction.TheVariants.{Asks, Reports, Fails}
use Rattle.client_core.specs.States.{fresh_in, scheme_held}
use Rattle.client_core.specs.Calls.{ClientCall, call_refusal, state_after_call, call_frame}
use Rattle.client_core.specs.Calls.{Hello as hello_call, Sync as sync_call, Ask as ask_call}
use Rattle.client_core.specs.Replies.{reaction_to_reply}
use Rattle.client_core.specs.Feeding.{sends_of, fault_of}
use Rattle.pir_world.specs.declared.steps.Step.{Step}
use Rattle.pir_world.specs.declared.steps.Step.TheVariants.{Edit, Append, Publish, Hello, Sync, Ask, ToServer, ToClient}
use Rattle.pir_world.specs.declared.steps.Outcome.{Outcome}
use Rattle.pir_world.specs.declared.steps.Outcome.TheVariants.{Edited, EditRefused, Appended, AppendRefused, Published, PublishRefused, Reported, CallRefused, Failed}

-- ---- one direction of a link

-- the frames that were sent and have not wholly arrived, in order, and how many bytes of the first
-- one have arrived
pub record Wire : Type 0 where
  pub frames : List Frame
  pub got : ℕ

-- nothing is on its way
abbrev pub silent : Wire
silent = record { frames = []; got = 0 }

-- more frames were sent
abbrev pub sent : Wire → List Frame → Wire
sent w fs = record { frames = w.frames ++ fs; got = w.got }

-- the frames that are whole within the first n bytes
abbrev pub whole_frames : List Frame → ℕ → List Frame
whole_frames [] n = []
whole_frames (f ∷ fs) n = if nat_le (length (encoding f)) n then f ∷ whole_frames fs (n - length (encoding f)) else []

-- what is still on its way after the first n bytes
abbrev pub rest_after : List Frame → ℕ → Wire
rest_after [] n = silent
rest_after (f ∷ fs) n = if nat_le (length (encoding f)) n then rest_after fs (n - length (encoding f)) else record { frames = f ∷ fs; got = n }

-- how far a delivery of at most some bytes comes
abbrev pub bytes_reached : Wire → ℕ → ℕ
bytes_reached w most = w.got + min most (length (flat_map encoding w.frames) - w.got)

-- the frames whose last byte a delivery hands over
abbrev pub arrived : Wire → ℕ → List Frame
arrived w most = whole_frames w.frames (bytes_reached w most)

-- what a delivery leaves on its way
abbrev pub wire_after : Wire → ℕ → Wire
wire_after w most = rest_after w.frames (bytes_reached w most)

-- ---- what is written down of a run

-- an accepted call that asks for a record: its index, the scheme and the version that the client's
-- hint names, the number spent
pub record AcceptedAsk : Type 0 where
  pub index : ℕ
  pub scheme : Scheme
  pub version : ℕ
  pub number : ℕ

-- A client was called, and why the call was refused, if it was; a client sent a frame; a client's
-- frame was served while version `now` was current, with this reply, if there was one; a reply
-- ended a client's retrieval with an event; any other outcome.
pub data LogEntry : Type 0 where
  Called : (client : ℕ) (want : ClientCall) (refusal : Option CallFault) → LogEntry
  Sent : (client : ℕ) (frame : Frame) → LogEntry
  Served : (client : ℕ) (frame : Frame) (now : ℕ) (reply : Option Frame) → LogEntry
  Ended : (client : ℕ) (retrieval : AcceptedAsk) (reply : Frame) (event : Event) → LogEntry
  Plain : (outcome : Outcome) → LogEntry

-- what is reported of an entry to the publisher and the clients
abbrev pub outcome_of : LogEntry → List Outcome
outcome_of (Called k want (Some fault)) = CallRefused k fault ∷ []
outcome_of (Ended k r reply event) = Reported k event ∷ []
outcome_of (Plain o) = o ∷ []
outcome_of _ = []

-- the outcomes of a log, in order
abbrev pub outcomes_of : List LogEntry → List Outcome
outcomes_of log = flat_map outcome_of log

-- ---- the server's side of a link

-- What a frame leads to. If `short` is true, the server is out of memory: a frame that it needs
-- memory for, and that no other check refuses, is then refused for that.
abbrev pub served_or : Bool → Setting → History → Standing → Frame → AfterFrame
served_or false x h st f = after_frame x h st f
served_or true x h st f = if takes_memory x h st f then refusal_given refusal.Memory st h else after_frame x h st f

-- what some frames lead to: the history and the standing after them, the replies, and what is
-- written down
pub record FramesServed : Type 0 where
  pub history : History
  pub standing : Standing
  pub replies : List Frame
  pub log : List LogEntry

-- a frame is served; once the session is closed, none is
abbrev pub with_frame_served : Setting → Bool → ℕ → FramesServed → Frame → FramesServed
with_frame_served x short k t f =
    if is_closed t.standing then t
    else (
    let o = served_or short x t.history t.standing f in
    let log = t.log ++ Served k f (current_version t.history) o.reply ∷ [] in
    record { history = o.history; standing = o.standing; replies = t.replies ++ option_to_list o.reply; log = log })

-- frames of client k, one after another, from a history and a standing on
abbrev pub serves : Setting → Bool → ℕ → History → Standing → List Frame → FramesServed
serves x short k h st fs = fold (with_frame_served x short k) (record { history = h; standing = st; replies = []; log = [] }) fs

-- ---- links

-- a client, its session's standing, and the frames on their way to the server (up) and to the
-- client (down)
pub record ClientLink : Type 0 where
  pub client : ClientState
  pub standing : Standing
  pub up : Wire
  pub down : Wire

-- what is written down of an event, which ends the outstanding call: of an ask the end of its
-- retrieval, in the scheme of the hint held, and of any other call the event alone
abbrev pub reports : ℕ → Scheme → Call → Frame → Event → LogEntry
reports k s (call.Ask i v n) reply e = Ended k (record { index = i; scheme = s; version = v; number = n }) reply e
reports k s _ reply e = Plain (Reported k e)

-- what is written down of a reaction to a reply: an event, a fault, or the frame that asks for the
-- next part of a hint
abbrev pub reacts : ℕ → Scheme → Call → Frame → Reaction → List LogEntry
reacts k s c reply (Asks scheme version part) = Sent k (frame.HintAsk (scheme_byte scheme) version part) ∷ []
reacts k s c reply (Reports e) = reports k s c reply e ∷ []
reacts k s c reply (Fails fault) = Plain (Failed k fault) ∷ []

-- what client k makes of replies: its state after them, the frames that it sends, and what is
-- written down
pub record Receipt : Type 0 where
  pub client : ClientState
  pub sends : List Frame
  pub log : List LogEntry

-- What client k makes of replies, one after another: the replies after a fault are dropped. Whether
-- the client had failed before is not asked, since no client of a run fails (`IsRight`). What is
-- written down of each reply names the call and the scheme of the hint that there were before it.
abbrev pub receives : ℕ → ClientState → List Frame → Receipt
receives k c [] = record { client = c; sends = []; log = [] }
receives k c (f ∷ fs) =
    let t = reaction_to_reply c f in
    let rest = cond (is_some (fault_of t.reaction)) (record { client = t.state; sends = []; log = [] }) (receives k t.state fs) in
    record { client = rest.client; sends = sends_of t.reaction ++ rest.sends; log = reacts k (scheme_held c.hint) c.call f t.reaction ++ rest.log }

-- ---- runs

-- the history of the store (its versions, and the draft), the links of the clients in their order,
-- and what was written down
pub record State : Type 0 where
  pub history : History
  pub links : List ClientLink
  pub log : List LogEntry

-- the link of client k is replaced, and entries are written down
abbrev pub with_link : State → History → ℕ → ClientLink → List LogEntry → State
with_link s h k l es = record { history = h; links = slice_set s.links k l; log = s.log ++ es }

-- the history is replaced, and an outcome is written down
abbrev pub with_history : State → History → Outcome → State
with_history s h o = record { history = h; links = s.links; log = s.log ++ Plain o ∷ [] }

-- a call at a link, which is refused with a fault or not: a refused one is written down and changes
-- nothing else; another one changes the client, which sends its frame
abbrev pub call_at : State → ℕ → ClientCall → ClientLink → Option CallFault → State
call_at s k w l (Some fault) = with_link s s.history k l (Called k w (Some fault) ∷ [])
call_at s k w l None =
    let f = call_frame w l.client in
    with_link s s.history k (record l { client = state_after_call w l.client; up = sent l.up (f ∷ []) }) (Called k w None ∷ Sent k f ∷ [])

-- a call at client k; nothing if there is no such client
abbrev pub called_at : State → ClientCall → ℕ → Option ClientLink → State
called_at s w k None = s
called_at s w k (Some l) = call_at s k w l (call_refusal w l.client)

-- a delivery of client k to the server, which serves each frame at the delivery of its last byte;
-- nothing if there is no such client
abbrev pub served_at : Setting → Bool → State → ℕ → ℕ → Option ClientLink → State
served_at x short s k most None = s
served_at x short s k most (Some l) =
    let t = serves x short k s.history l.standing (arrived l.up most) in
    with_link s t.history k (record l { standing = t.standing; up = wire_after l.up most; down = sent l.down t.replies }) t.log

-- a delivery to client k, which takes each frame at the delivery of its last byte; nothing if there
-- is no such client
abbrev pub received_at : State → ℕ → ℕ → Option ClientLink → State
received_at s k most None = s
received_at s k most (Some l) =
    let t = receives k l.client (arrived l.down most) in
    with_link s s.history k (record l { client = t.client; up = sent l.up t.sends; down = wire_after l.down most }) t.log

-- the key of a reader
abbrev pub reader_key : List ℕ
reader_key = replicate 32 0

-- an edit by the publisher
abbrev pub edit_after : Setting → State → ℕ → List ℕ → State
edit_after x s i bytes =
    if nat_lt i (length s.history.draft) then (
    if fits x.plan bytes then with_history s (after_edit i bytes s.history) (Edited i)
    else with_history s s.history (EditRefused i edit_error.BadLength))
    else with_history s s.history (EditRefused i edit_error.BadIndex)

-- an append by the publisher
abbrev pub append_after : Setting → State → List ℕ → State
append_after x s bytes =
    if fits x.plan bytes then (
    if is_layout (shape_at x.plan (length s.history.draft + 1)) then with_history s (after_append bytes s.history) Appended
    else with_history s s.history (AppendRefused append_error.Full))
    else with_history s s.history (AppendRefused append_error.BadLength)

-- a publication
abbrev pub publish_after : State → State
publish_after s =
    if s.history.marked then (
    if current_version s.history + 1 == 2 ^ 64 then with_history s s.history (PublishRefused publish_error.VersionsUsedUp)
    else with_history s (published s.history) (Published (current_version s.history + 1)))
    else with_history s s.history (PublishRefused publish_error.NothingToPublish)

-- what a step leads to
abbrev pub state_after : Setting → Bool → State → Step → State
state_after x short s (Edit i bytes) = edit_after x s i bytes
state_after x short s (Append bytes) = append_after x s bytes
state_after x short s Publish = publish_after s
state_after x short s (Hello k) = called_at s (hello_call reader_key) k (slice_get s.links k)
state_after x short s (Sync k scheme) = called_at s (sync_call scheme) k (slice_get s.links k)
state_after x short s (Ask k i) = called_at s (ask_call i) k (slice_get s.links k)
state_after x short s (ToServer k most) = served_at x short s k most (slice_get s.links k)
state_after x short s (ToClient k most) = received_at s k most (slice_get s.links k)

-- each byte of an edit or an append is below 2 ^ 8
abbrev pub HasBytes : Step → Type 0
HasBytes (Edit i bytes) = All (λ b. b < 2 ^ 8) bytes
HasBytes (Append bytes) = All (λ b. b < 2 ^ 8) bytes
HasBytes _ = Unit {0}

-- One step: the server has memory for its replies, or is out of it. At most one frame is on its way
-- to it from each client, so nothing is lost by saying that of a whole delivery.
abbrev pub StepsTo : Setting → State → Step → State → Type 0
StepsTo x s step t = HasBytes step × ((t ≡ state_after x false s step) ⊎ (t ≡ state_after x true s step))

-- these steps, one after another, lead from a state to another
abbrev pub RunsTo : Setting → State → List Step → State → Type 0
RunsTo x s steps t = FoldsTo (StepsTo x) s steps t

-- a link as it begins, of a client of wide stores or of ordinary ones
abbrev pub fresh_link : Bool → List ℕ → ClientLink
fresh_link wide seed = record { client = fresh_in (client_profile wide) seed 0; standing = Stranger; up = silent; down = silent }

-- what a snapshot fixes for every version: the plan and the SHA-256 of the publisher's key
abbrev pub setting_in : Header → Setting
setting_in h = record { plan = plan_held h; publisher = h.publisher }

-- the state that a run begins in: one version, of a snapshot's records, and a client for each seed
abbrev pub opening : Header → List ℕ → List (List ℕ) → State
opening h records seeds = record { history = opened h.version (records_held (plan_held h) h.count records); links = map (fresh_link (is_wide h.form)) seeds; log = [] }
