-- What a client does with a piece of the server's stream.
use Rattle.std.specs.Prelude.{◌≡◌, ◌<◌, ℕ, List, [], ◌∷◌, ◌++◌, length, take, true, Option, Some, None, is_some, if◌then◌else◌, Result, Ok, Err, ◌⊎◌, MatchBool}
use Rattle.std.specs.List.{flat_map, AllByRecursion}
use Rattle.frame_codec.specs.declared.frame.Frame.{Frame}
use Rattle.frame_codec.specs.declared.frame.Frame.TheVariants as frame
use Rattle.frame_codec.specs.declared.reader.ReadFault.{ReadFault}
use Rattle.frame_codec.specs.declared.reader.ReadFault.TheVariants as read_fault
use Rattle.frame_codec.specs.Frames.{IsFrame, encoding}
use Rattle.frame_codec.specs.Streams.{Feeds}
use Rattle.client_core.specs.declared.state.ClientState.{ClientState}
use Rattle.client_core.specs.declared.state.Event.{Event}
use Rattle.client_core.specs.declared.state.ClientFault.{ClientFault}
use Rattle.client_core.specs.declared.state.ClientFault.TheVariants.{BadReply, Memory, Failed}
use Rattle.client_core.specs.declared.state.Reaction.{Reaction}
use Rattle.client_core.specs.declared.state.Reaction.TheVariants.{Asks, Reports, Fails}
use Rattle.client_core.specs.States.{is_wide_client}
use Rattle.client_core.specs.Replies.{AfterReply, reaction_to_reply}
use Rattle.pir_schemes.specs.Schemes.{scheme_byte}

-- a client as contracts see it: its state, and the bytes of an unfinished frame, None once the
-- stream has failed
pub record Client : Type 0 where
  pub state : ClientState
  pub reader : Option (List ℕ)

-- the frame that a reaction sends
abbrev pub sends_of : Reaction → List Frame
sends_of (Asks scheme version part) = frame.HintAsk (scheme_byte scheme) version part ∷ []
sends_of _ = []

-- the event that a reaction reports, if it does
abbrev pub events_of : Reaction → List Event
events_of (Reports e) = e ∷ []
events_of _ = []

-- the fault that a reaction reports, if it does
abbrev pub fault_of : Reaction → Option ClientFault
fault_of (Fails f) = Some f
fault_of _ = None

-- where a client stands after some replies: what it has sent and reported, and its fault
pub record Course : Type 0 where
  pub state : ClientState
  pub sends : List Frame
  pub events : List Event
  pub fault : Option ClientFault

-- a client's course before any reply
abbrev pub start : ClientState → Course
start c = record { state = c; sends = []; events = []; fault = None }

-- after one more reply
abbrev pub course_after_reply : Course → AfterReply → Course
course_after_reply k t =
    record { state = t.state; sends = k.sends ++ sends_of t.reaction; events = k.events ++ events_of t.reaction; fault = fault_of t.reaction }

-- one more frame; after a fault none is taken
abbrev pub course_more : Course → Frame → Course
course_more k f = if is_some k.fault then k else course_after_reply k (reaction_to_reply k.state f)

-- a client's course after further frames, one after another, up to a fault
abbrev pub runs : Course → List Frame → Course
runs k [] = k
runs k (f ∷ fs) = runs (course_more k f) fs

-- replies one after another, up to a fault
abbrev pub takes_all : ClientState → List Frame → Course
takes_all c fs = runs (start c) fs

-- what the codec's answer says after the frames: every fault but refused memory is a bad reply
abbrev pub codec_fault : Result (Unit {0}) ReadFault → Option ClientFault
codec_fault (Ok done) = None
codec_fault (Err read_fault.TooLong) = Some BadReply
codec_fault (Err read_fault.UnknownKind) = Some BadReply
codec_fault (Err read_fault.BadPayload) = Some BadReply
codec_fault (Err read_fault.Memory) = Some Memory
codec_fault (Err read_fault.Failed) = Some BadReply

-- the client fails after the frames, if it did not among them
abbrev pub failing : Course → Option ClientFault → Course
failing k None = k
failing k (Some f) = if is_some k.fault then k else record k { state = record k.state { failed = true }; fault = Some f }

-- the frames of a piece, and then what the codec answered after them
abbrev pub ends_with : Course → Result (Unit {0}) ReadFault → Course
ends_with k answer = failing k (codec_fault answer)

-- the bytes and the events that were given are those of a course
pub record Gives (k : Course) (out : List ℕ) (events : List Event) : Type 0 where
  pub written : out ≡ flat_map encoding k.sends
  pub each : AllByRecursion IsFrame k.sends
  pub reported : events ≡ k.events

-- the course was gone to its end
pub record Follows (k : Course) (out : List ℕ) (events : List Event) (fault : Option ClientFault) (new : ClientState) : Type 0 where
  pub gives : Gives k out events
  pub fault_is : fault ≡ k.fault
  pub state : new ≡ k.state

-- memory was refused at a frame: what was given is that of the frames before it, and no number was
-- spent
pub record BreaksOff (c : ClientState) (frames : List Frame) (out : List ℕ) (events : List Event) (fault : Option ClientFault)
    (new : ClientState) : Type 0 where
  pub n : ℕ
  pub inside : n < length frames
  pub good : (takes_all c (take n frames)).fault ≡ None
  pub gives : Gives (takes_all c (take n frames)) out events
  pub fault_is : fault ≡ Some Memory
  pub failed : new.failed ≡ true
  pub number : new.number ≡ c.number

-- a piece fed to a client that hadn't failed: the codec reads it, and its frames are taken
pub record FeedsOpen (old : Client) (piece : List ℕ) (out : List ℕ) (events : List Event) (fault : Option ClientFault) (new : Client) : Type 0 where
  pub answer : Result (Unit {0}) ReadFault
  pub frames : List Frame
  pub reads : Feeds (is_wide_client old.state) old.reader piece answer frames new.reader
  pub takes : Follows (ends_with (takes_all old.state frames) answer) out events fault new.state ⊎ BreaksOff old.state frames out events fault new.state

-- a piece fed to one that had: nothing comes of it
pub record FeedsFailed (old : Client) (out : List ℕ) (events : List Event) (fault : Option ClientFault) (new : Client) : Type 0 where
  pub same : new ≡ old
  pub fault_is : fault ≡ Some Failed
  pub none : out ≡ []
  pub silent : events ≡ []

-- what a client does with a chunk of the stream: nothing once it has failed, else what its frames
-- bring
abbrev pub FeedsClient : Client → List ℕ → List ℕ → List Event → Option ClientFault → Client → Type 0
FeedsClient old piece out events fault new =
    MatchBool old.state.failed (FeedsFailed old out events fault new) (FeedsOpen old piece out events fault new)
