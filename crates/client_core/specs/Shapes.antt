-- The kinds and lengths of the frames that a client sends, as a function of what holds no index and
-- no word.
use Rattle.std.specs.Prelude.{◌≡◌, ◌≢◌, ◌⊎◌, ◌<◌, ◌+◌, ◌*◌, ℕ, List, [], ◌∷◌, ◌++◌, length, map, Bool, true, false, not, ◌&&◌, Option, Some, None, is_some, Result, Ok, Err, ◌==◌, if◌then◌else◌}
use Rattle.std.specs.List.{flat_map, AllByRecursion}
use Rattle.digit_pack.specs.Layout.{is_wide}
use Rattle.frame_codec.specs.declared.frame.Frame.{Frame}
use Rattle.frame_codec.specs.declared.frame.Frame.TheVariants as frame
use Rattle.frame_codec.specs.declared.reader.ReadFault.{ReadFault}
use Rattle.frame_codec.specs.Frames.{kind_of, payload_of, encoding}
use Rattle.frame_codec.specs.Streams.{Feeds}
use Rattle.pir_schemes.specs.declared.plan.Plan.{Plan}
use Rattle.pir_schemes.specs.declared.scheme.Scheme.{Scheme}
use Rattle.pir_schemes.specs.declared.scheme.Scheme.TheVariants.{Simple}
use Rattle.pir_schemes.specs.Schemes.{scheme_byte}
use Rattle.pir_schemes.specs.Parts.{part_len}
use Rattle.pir_schemes.specs.Retrievals.{hint_len, query_count, answer_count}
use Rattle.client_core.specs.declared.state.ClientState.{ClientState}
use Rattle.client_core.specs.declared.state.ServerInfo.{ServerInfo}
use Rattle.client_core.specs.declared.state.Hint.{Hint}
use Rattle.client_core.specs.declared.state.Call.{Call}
use Rattle.client_core.specs.declared.state.Call.TheVariants as call
use Rattle.client_core.specs.States.{is_wide_client, shape_known, known_version, known_count, simple_version}
use Rattle.client_core.specs.declared.state.CallFault.{CallFault}
use Rattle.client_core.specs.declared.state.ClientFault.{ClientFault}
use Rattle.client_core.specs.declared.state.ClientFault.TheVariants.{Memory}
use Rattle.client_core.specs.declared.state.Event.{Event}
use Rattle.client_core.specs.Calls.{ClientCall, Hello, Sync, Ask, Edit, Append, Publish, call_since, call_frame, call_refusal, Accepts, Refuses}
use Rattle.client_core.specs.Replies.{reaction_to_reply, plan_given, is_accepted_welcome, is_current, with_current, row_numbers, is_delta, is_changes}
use Rattle.client_core.specs.Feeding.{Client, sends_of, events_of, fault_of, takes_all, FeedsClient}
use Rattle.client_core.specs.Laws.{Happening, Accepted, TurnedDown, Lacking, Replied, Failing, after}

-- ---- the frames that a client sends, and their shapes

-- the frames sent then: a call's own, or the next HintAsk of a sync
abbrev pub frames_at : ClientState → Happening → List Frame
frames_at c (Accepted want) = call_frame want c ∷ []
frames_at c (TurnedDown want) = []
frames_at c (Lacking want) = []
frames_at c (Replied reply) = sends_of (reaction_to_reply c reply).reaction
frames_at c Failing = []

-- the frames that a client sends, in order
abbrev pub frames : ClientState → List Happening → List Frame
frames c [] = []
frames c (h ∷ hs) = frames_at c h ++ frames (after c h) hs

-- a frame's kind, and how many bytes its payload has
pub record FrameShape : Type 0 where
  pub kind : ℕ
  pub len : ℕ

-- a frame's shape
abbrev pub shape_of_frame : Frame → FrameShape
shape_of_frame f = record { kind = kind_of f; len = length (payload_of f) }

-- the shape of this kind and length
abbrev pub frame_shape : ℕ → ℕ → FrameShape
frame_shape kind len = record { kind = kind; len = len }

-- ---- calls, replies and clients, without indices, keys, seeds and words

-- a call: of the bytes of an edit or of a record to append only their count
pub data BlankCall : Type 0 where
  BlankHello : BlankCall
  BlankSync : (scheme : Scheme) → BlankCall
  BlankAsk : BlankCall
  BlankEdit : (count : ℕ) → BlankCall
  BlankAppend : (count : ℕ) → BlankCall
  BlankPublish : BlankCall

-- a call without its index
abbrev pub blank_call : ClientCall → BlankCall
blank_call (Hello key) = BlankHello
blank_call (Sync scheme) = BlankSync scheme
blank_call (Ask i) = BlankAsk
blank_call (Edit i bytes) = BlankEdit (length bytes)
blank_call (Append bytes) = BlankAppend (length bytes)
blank_call Publish = BlankPublish

-- a reply: its kind, its versions and its counts; the numbers of a Delta's rows; and a Welcome and
-- Changes whole
pub data BlankReply : Type 0 where
  BlankWelcome : (plan : Plan) (count version : ℕ) → BlankReply
  BlankPart : (scheme version part count : ℕ) → BlankReply
  BlankDelta : (since now count dimension : ℕ) (numbers : List ℕ) → BlankReply
  BlankChanges : (since now count : ℕ) (entries : List ℕ) → BlankReply
  BlankAnswer : (scheme version count : ℕ) → BlankReply
  BlankStale : (version count : ℕ) → BlankReply
  BlankDone : BlankReply
  BlankNoDelta : (version count : ℕ) → BlankReply
  BlankRefused : BlankReply
  BlankOther : BlankReply

-- a reply without its words
abbrev pub blank_reply : Frame → BlankReply
blank_reply (frame.Welcome profile width record_len groups count version dimension seed) =
    BlankWelcome (plan_given profile width record_len groups dimension seed) count version
blank_reply (frame.HintPart scheme version part words) = BlankPart scheme version part (length words)
blank_reply (frame.Delta since now count rows) = BlankDelta since now count rows.dimension (row_numbers rows)
blank_reply (frame.Changes since now count entries) = BlankChanges since now count entries
blank_reply (frame.Answer scheme version words) = BlankAnswer scheme version (length words)
blank_reply (frame.Stale version count) = BlankStale version count
blank_reply (frame.Done version) = BlankDone
blank_reply (frame.NoDelta version count) = BlankNoDelta version count
blank_reply (frame.Refused code) = BlankRefused
blank_reply _ = BlankOther

-- what happens to a client: a call accepted, refused, or refused memory; a reply; its failure
pub data BlankHappening : Type 0 where
  BlankAccepted : (call : BlankCall) → BlankHappening
  BlankTurnedDown : (call : BlankCall) → BlankHappening
  BlankLacking : (call : BlankCall) → BlankHappening
  BlankTaken : (reply : BlankReply) → BlankHappening
  BlankFailing : BlankHappening

-- what happened, without indices and words
abbrev pub blank_happening : Happening → BlankHappening
blank_happening (Accepted want) = BlankAccepted (blank_call want)
blank_happening (TurnedDown want) = BlankTurnedDown (blank_call want)
blank_happening (Lacking want) = BlankLacking (blank_call want)
blank_happening (Replied reply) = BlankTaken (blank_reply reply)
blank_happening Failing = BlankFailing

-- what the client waits for: nothing; a Welcome; a part of a version's hint; a Delta or Changes
-- from a version; an answer of a version; a Done
pub data Awaited : Type 0 where
  NoReply : Awaited
  AWelcome : Awaited
  APart : (scheme : Scheme) (version part : ℕ) → Awaited
  ADelta : (since : ℕ) → Awaited
  TheChanges : (since : ℕ) → Awaited
  AnAnswer : (version : ℕ) → Awaited
  ADone : Awaited

-- what a client with this call outstanding waits for
abbrev pub awaited : Call → Awaited
awaited call.Idle = NoReply
awaited call.Hello = AWelcome
awaited (call.Sync scheme version part) = APart scheme version part
awaited (call.Delta since) = ADelta since
awaited (call.Changes since) = TheChanges since
awaited (call.Ask i version number) = AnAnswer version
awaited call.Edit = ADone
awaited call.Append = ADone
awaited call.Publish = ADone

-- a hint's scheme and version
pub record HintName : Type 0 where
  pub scheme : Scheme
  pub version : ℕ

-- the name of the hint held, if any
abbrev pub hint_name : Option Hint → Option HintName
hint_name None = None
hint_name (Some h) = Some (record { scheme = h.scheme; version = h.version })

-- all of a client but for its seed and what its indices and words are: `words` of an unfinished
-- hint have come
pub record Outline : Type 0 where
  pub profile : ℕ
  pub number : ℕ
  pub known : Option ServerInfo
  pub hint : Option HintName
  pub words : ℕ
  pub call : Awaited
  pub failed : Bool

-- a client's outline
abbrev pub outline : ClientState → Outline
outline c = record { profile = c.profile; number = c.number; known = c.known; hint = hint_name c.hint; words = length c.parts; call = awaited c.call; failed = c.failed }

-- ---- calls

-- how many words a query has: as many as the scheme of the hint held wants for the count known
abbrev pub asked_count : Option ServerInfo → Option HintName → ℕ
asked_count None hint = 0
asked_count (Some k) None = query_count Simple (shape_known k)
asked_count (Some k) (Some h) = query_count h.scheme (shape_known k)

-- the version since which a sync of a scheme asks for what changed, if this hint is held
abbrev pub named_base : Scheme → Option HintName → Option ℕ
named_base Simple (Some h) = simple_version h.scheme h.version
named_base _ hint = None

-- the kind of the frame that asks for what changed: for records in a wide store, for rows of the
-- hint in an ordinary one
abbrev pub kind_since : Bool → ℕ
kind_since true = 10
kind_since false = 4

-- the shape of the first frame of a sync, in a wide store or an ordinary one: by what changed, or
-- by parts
abbrev pub sync_shape : Bool → Option ℕ → FrameShape
sync_shape wide (Some since) = frame_shape (kind_since wide) 8
sync_shape wide None = frame_shape 3 13

-- the shape of a call's frame
abbrev pub call_shape : Outline → BlankCall → FrameShape
call_shape x BlankHello = frame_shape 2 34
call_shape x (BlankSync scheme) = sync_shape (is_wide x.profile) (named_base scheme x.hint)
call_shape x BlankAsk = frame_shape 5 (9 + 4 * asked_count x.known x.hint)
call_shape x (BlankEdit count) = frame_shape 6 (4 + count)
call_shape x (BlankAppend count) = frame_shape 9 count
call_shape x BlankPublish = frame_shape 7 0

-- the outline where a sync begins
abbrev pub outline_of_sync : Option ℕ → Scheme → Outline → Outline
outline_of_sync (Some since) scheme x = record x { call = awaited (call_since (is_wide x.profile) since) }
outline_of_sync None scheme x = record x { call = APart scheme (known_version x.known) 0; hint = None; words = 0 }

-- the outline after an accepted call
abbrev pub outline_after_call : BlankCall → Outline → Outline
outline_after_call BlankHello x = record x { call = AWelcome }
outline_after_call (BlankSync scheme) x = outline_of_sync (named_base scheme x.hint) scheme x
outline_after_call BlankAsk x = record x { call = AnAnswer (known_version x.known); number = x.number + 1 }
outline_after_call (BlankEdit count) x = record x { call = ADone }
outline_after_call (BlankAppend count) x = record x { call = ADone }
outline_after_call BlankPublish x = record x { call = ADone }

-- the outline after a call that was refused memory: only the number of a retrieval is spent
abbrev pub outline_spent : BlankCall → Outline → Outline
outline_spent BlankAsk x = record x { number = x.number + 1 }
outline_spent _ x = x

-- ---- replies

-- the outline after a reply, and the shapes of the frames sent then
pub record Reacted : Type 0 where
  pub outline : Outline
  pub sends : List FrameShape

-- the reply was bad
abbrev pub fails : Outline → Reacted
fails x = record { outline = record x { failed = true }; sends = [] }

-- the call has ended
abbrev pub ends : Outline → Reacted
ends x = record { outline = record x { call = NoReply }; sends = [] }

-- a Welcome answers hello alone
abbrev pub after_welcome : Awaited → Outline → Plan → ℕ → ℕ → Reacted
after_welcome AWelcome x p count version =
    if is_accepted_welcome x.profile p count version
    then ends (record x { known = Some (record { version = version; count = count; plan = p }) }) else fails x
after_welcome _ x p count version = fails x

-- the last part ends a sync, and after another the next part is asked for
abbrev pub after_good_part : Scheme → ServerInfo → Outline → ℕ → ℕ → ℕ → Reacted
after_good_part s k x version part words =
    if words == hint_len s (shape_known k) k.plan.dimension
    then ends (record x { hint = Some (record { scheme = s; version = version }); words = 0 })
    else record { outline = record x { call = APart s version (part + 1); words = words }; sends = frame_shape 3 13 ∷ [] }

-- a part is good that was asked for, with all its words
abbrev pub after_asked_part : Option ServerInfo → Scheme → Outline → ℕ → ℕ → ℕ → ℕ → ℕ → ℕ → Reacted
after_asked_part None s x asked next scheme version part count = fails x
after_asked_part (Some k) s x asked next scheme version part count =
    if (scheme == scheme_byte s) && ((version == asked) && ((part == next) && (count == part_len (hint_len s (shape_known k) k.plan.dimension) next)))
    then after_good_part s k x asked next (x.words + count) else fails x

-- a part answers a sync by parts alone
abbrev pub after_part : Awaited → Outline → ℕ → ℕ → ℕ → ℕ → Reacted
after_part (APart s v p) x scheme version part count = after_asked_part x.known s x v p scheme version part count
after_part _ x scheme version part count = fails x

-- a Delta gives the hint held its version, if it is one that was asked for
abbrev pub after_asked_delta : Option ServerInfo → Option HintName → Outline → ℕ → ℕ → ℕ → ℕ → ℕ → List ℕ → Reacted
after_asked_delta None hint x asked since now count dimension numbers = fails x
after_asked_delta (Some k) None x asked since now count dimension numbers = fails x
after_asked_delta (Some k) (Some h) x asked since now count dimension numbers =
    if is_delta k asked since now count dimension numbers
    then ends (record x { known = Some (with_current k now count); hint = Some (record h { version = now }) }) else fails x

-- a Delta answers a sync by delta alone
abbrev pub after_delta : Awaited → Outline → ℕ → ℕ → ℕ → ℕ → List ℕ → Reacted
after_delta (ADelta asked) x since now count dimension numbers = after_asked_delta x.known x.hint x asked since now count dimension numbers
after_delta _ x since now count dimension numbers = fails x

-- Changes give the hint held their version, if they are ones that were asked for
abbrev pub after_asked_changes : Option ServerInfo → Option HintName → Outline → ℕ → ℕ → ℕ → ℕ → List ℕ → Reacted
after_asked_changes None hint x asked since now count entries = fails x
after_asked_changes (Some k) None x asked since now count entries = fails x
after_asked_changes (Some k) (Some h) x asked since now count entries =
    if is_changes k asked since now count entries
    then ends (record x { known = Some (with_current k now count); hint = Some (record h { version = now }) }) else fails x

-- Changes answer a sync by changed records alone
abbrev pub after_changes : Awaited → Outline → ℕ → ℕ → ℕ → List ℕ → Reacted
after_changes (TheChanges asked) x since now count entries = after_asked_changes x.known x.hint x asked since now count entries
after_changes _ x since now count entries = fails x

-- a NoDelta drops the hint held, and the sync goes on by parts
abbrev pub after_asked_no_delta : Option ServerInfo → Outline → ℕ → ℕ → Reacted
after_asked_no_delta None x version count = fails x
after_asked_no_delta (Some k) x version count =
    if is_current k version count
    then record {
      outline = record x { known = Some (with_current k version count); hint = None; words = 0; call = APart Simple version 0 };
      sends = frame_shape 3 13 ∷ [];
    }
    else fails x

-- NoDelta answers a sync by delta or by changed records alone
abbrev pub after_no_delta : Awaited → Outline → ℕ → ℕ → Reacted
after_no_delta (ADelta asked) x version count = after_asked_no_delta x.known x version count
after_no_delta (TheChanges asked) x version count = after_asked_no_delta x.known x version count
after_no_delta _ x version count = fails x

-- an answer has the scheme of the hint, the version asked and as many words as these want
abbrev pub after_asked_answer : Option ServerInfo → Option HintName → Outline → ℕ → ℕ → ℕ → ℕ → Reacted
after_asked_answer None hint x asked scheme version count = fails x
after_asked_answer (Some k) None x asked scheme version count = fails x
after_asked_answer (Some k) (Some h) x asked scheme version count =
    if (scheme == scheme_byte h.scheme) && ((version == asked) && (count == answer_count h.scheme (shape_known k) k.plan.dimension))
    then ends x else fails x

-- an answer replies to ask alone
abbrev pub after_answer : Awaited → Outline → ℕ → ℕ → ℕ → Reacted
after_answer (AnAnswer v) x scheme version count = after_asked_answer x.known x.hint x v scheme version count
after_answer _ x scheme version count = fails x

-- the version and the count are the last known, if these are another version than asked and a
-- count within the limits
abbrev pub after_asked_stale : Option ServerInfo → Outline → Outline → ℕ → ℕ → ℕ → Reacted
after_asked_stale None dropped x asked version count = fails x
after_asked_stale (Some k) dropped x asked version count =
    if not (version == asked) && is_current k version count
    then ends (record dropped { known = Some (with_current k version count) }) else fails x

-- Stale answers a sync by parts, whose unfinished hint is dropped, and ask
abbrev pub after_stale : Awaited → Outline → ℕ → ℕ → Reacted
after_stale (APart s v p) x version count = after_asked_stale x.known (record x { words = 0 }) x v version count
after_stale (AnAnswer v) x version count = after_asked_stale x.known x x v version count
after_stale _ x version count = fails x

-- Done answers edit, append and publish
abbrev pub after_done : Awaited → Outline → Reacted
after_done ADone x = ends x
after_done _ x = fails x

-- Refused answers every call, and drops an unfinished hint
abbrev pub after_refused : Awaited → Outline → Reacted
after_refused NoReply x = fails x
after_refused (APart s v p) x = ends (record x { words = 0 })
after_refused _ x = ends x

-- what a reply leads to, by its kind
abbrev pub after_reply : Outline → BlankReply → Reacted
after_reply x (BlankWelcome plan count version) = after_welcome x.call x plan count version
after_reply x (BlankPart scheme version part count) = after_part x.call x scheme version part count
after_reply x (BlankAnswer scheme version count) = after_answer x.call x scheme version count
after_reply x (BlankStale version count) = after_stale x.call x version count
after_reply x (BlankDelta since now count dimension numbers) = after_delta x.call x since now count dimension numbers
after_reply x (BlankChanges since now count entries) = after_changes x.call x since now count entries
after_reply x (BlankNoDelta version count) = after_no_delta x.call x version count
after_reply x BlankDone = after_done x.call x
after_reply x BlankRefused = after_refused x.call x
after_reply x BlankOther = fails x

-- ---- any happenings

-- the outline after what happened
abbrev pub outline_after : Outline → BlankHappening → Outline
outline_after x (BlankAccepted call) = outline_after_call call x
outline_after x (BlankTurnedDown call) = x
outline_after x (BlankLacking call) = outline_spent call x
outline_after x (BlankTaken reply) = (after_reply x reply).outline
outline_after x BlankFailing = record x { failed = true }

-- a refused call sends nothing
abbrev pub shapes_at : Outline → BlankHappening → List FrameShape
shapes_at x (BlankAccepted call) = call_shape x call ∷ []
shapes_at x (BlankTurnedDown call) = []
shapes_at x (BlankLacking call) = []
shapes_at x (BlankTaken reply) = (after_reply x reply).sends
shapes_at x BlankFailing = []

-- the shapes of the frames that a client sends: no index is among what they come from
abbrev pub shapes : Outline → List BlankHappening → List FrameShape
shapes x [] = []
shapes x (h ∷ hs) = shapes_at x h ++ shapes (outline_after x h) hs

-- ---- the laws

-- a key has 32 bytes
abbrev pub HasWholeKey : ClientCall → Type 0
HasWholeKey (Hello key) = length key ≡ 32
HasWholeKey _ = Unit {0}

-- the key of a greeting has 32 bytes
abbrev pub KeyIsWhole : Happening → Type 0
KeyIsWhole (Accepted want) = HasWholeKey want
KeyIsWhole _ = Unit {0}

-- an ask is of a record below the count known
abbrev pub IndexIsBelow : ClientCall → ClientState → Type 0
IndexIsBelow (Ask i) c = i < known_count c.known
IndexIsBelow _ c = Unit {0}

-- Whatever happens to a client, its frames have the shapes that the happenings without their
-- indices give. So no index changes how many frames there are, their order, their kinds or their
-- lengths, nor whether and why a call of a record below the count known is refused.
pub record EqualShapes : Type 0 where
  pub shapes_are : (c : ClientState) (hs : List Happening) → AllByRecursion KeyIsWhole hs →
      map shape_of_frame (frames c hs) ≡ shapes (outline c) (map blank_happening hs)
  pub outline_is : (c : ClientState) (h : Happening) → outline (after c h) ≡ outline_after (outline c) (blank_happening h)
  pub same_shapes : (c d : ClientState) (hs gs : List Happening) → AllByRecursion KeyIsWhole hs → AllByRecursion KeyIsWhole gs →
      outline c ≡ outline d → map blank_happening hs ≡ map blank_happening gs → map shape_of_frame (frames c hs) ≡ map shape_of_frame (frames d gs)
  pub same_refusal : (c d : ClientState) (want other : ClientCall) → IndexIsBelow want c → IndexIsBelow other d →
      outline c ≡ outline d → blank_call want ≡ blank_call other → call_refusal want c ≡ call_refusal other d

-- ---- what a client does is happenings

-- the client's state after so much
abbrev pub after_all : ClientState → List Happening → ClientState
after_all c [] = c
after_all c (h ∷ hs) = after_all (after c h) hs

-- the events that are reported then
abbrev pub events_at : ClientState → Happening → List Event
events_at c (Replied reply) = events_of (reaction_to_reply c reply).reaction
events_at c _ = []

-- the events that a client reports, in order
abbrev pub reported_events : ClientState → List Happening → List Event
reported_events c [] = []
reported_events c (h ∷ hs) = events_at c h ++ reported_events (after c h) hs

-- what happens to a client at replies: each is taken, up to a bad one
abbrev pub taken_of : ClientState → List Frame → List Happening
taken_of c [] = []
taken_of c (f ∷ fs) =
    Replied f ∷ (if is_some (fault_of (reaction_to_reply c f).reaction) then [] else taken_of (reaction_to_reply c f).state fs)

-- the client's failure, if the codec stopped
abbrev pub failure_at : Result (Unit {0}) ReadFault → List Happening
failure_at (Ok done) = []
failure_at (Err fault) = Failing ∷ []

-- what happens to a client at the replies of a piece and what the codec answered after them
abbrev pub happenings_of : ClientState → List Frame → Result (Unit {0}) ReadFault → List Happening
happenings_of c fs answer = taken_of c fs ++ (if is_some (takes_all c fs).fault then [] else failure_at answer)

-- a reply, or a failure
abbrev pub IsReplyOrFailure : Happening → Type 0
IsReplyOrFailure (Replied reply) = Unit {0}
IsReplyOrFailure Failing = Unit {0}
IsReplyOrFailure _ = ⊥

-- The replies that a piece makes whole happened to a client, one after another: they led from one
-- state to the other, their frames were written and their events reported.
pub record Happened (old : Client) (piece out : List ℕ) (events : List Event) (new : Client) : Type 0 where
  pub answer : Result (Unit {0}) ReadFault
  pub replies : List Frame
  pub reads : Feeds (is_wide_client old.state) old.reader piece answer replies new.reader
  pub happenings : List Happening
  pub happenings_are : happenings ≡ happenings_of old.state replies answer
  pub fed : AllByRecursion IsReplyOrFailure happenings
  pub written : out ≡ flat_map encoding (frames old.state happenings)
  pub reported : events ≡ reported_events old.state happenings
  pub state : new.state ≡ after_all old.state happenings

-- nothing happened
pub record NothingHappened (old : Client) (out : List ℕ) (events : List Event) (new : Client) : Type 0 where
  pub written : out ≡ []
  pub reported : events ≡ []
  pub same : new ≡ old

-- All that a client writes are the frames of happenings: of an accepted call; of none if a call
-- is refused; and of the replies that it is fed, taken one after another, up to its failure, if
-- no memory is refused. What it reports are their events, and nothing happens once it has failed.
pub record ClientsHappen : Type 0 where
  pub accepted : (old new : ClientState) (want : ClientCall) (bytes : List ℕ) → Accepts old want new bytes →
      (bytes ≡ flat_map encoding (frames_at old (Accepted want))) × (new ≡ after old (Accepted want))
  pub refused : (old new : ClientState) (want : ClientCall) (fault : CallFault) → Refuses old want fault new →
      (new ≡ after old (TurnedDown want)) ⊎ (new ≡ after old (Lacking want))
  pub fed : (old new : Client) (piece out : List ℕ) (events : List Event) (fault : Option ClientFault) →
      FeedsClient old piece out events fault new → old.state.failed ≡ false → fault ≢ Some Memory → Happened old piece out events new
  pub failed : (old new : Client) (piece out : List ℕ) (events : List Event) (fault : Option ClientFault) →
      FeedsClient old piece out events fault new → old.state.failed ≡ true → NothingHappened old out events new
  pub replies : (c : ClientState) (fs : List Frame) → (takes_all c fs).fault ≡ None →
      ((takes_all c fs).sends ≡ frames c (map Replied fs)) × ((takes_all c fs).events ≡ reported_events c (map Replied fs))
      × ((takes_all c fs).state ≡ after_all c (map Replied fs))
