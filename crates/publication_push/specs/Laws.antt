-- Laws of pushes.
use Rattle.std.specs.Prelude.{◌≡◌, ◌+◌, ℕ, List, [], ◌∷◌, ◌++◌, length, map}
use Rattle.client_core.specs.declared.state.ClientState.{ClientState}
use Rattle.client_core.specs.declared.state.Event.TheVariants as event
use Rattle.client_core.specs.declared.state.Reaction.TheVariants.{Reports}
use Rattle.client_core.specs.Calls.{Accepts, state_after_call}
use Rattle.client_core.specs.Replies.{reaction_to_reply}
use Rattle.frame_codec.specs.Frames.{encoding}
use Rattle.frame_codec.specs.declared.frame.Frame.{Frame}
use Rattle.frame_codec.specs.declared.frame.Frame.TheVariants.{Hello, Done}
use Rattle.publication_log.specs.Publications.{Published}
use Rattle.publication_log.specs.Logs.{AreNext}
use Rattle.version_store.specs.Histories.{History, current_version}
use Rattle.log_replay.specs.Replays.{history_replayed_all}
use Rattle.server_core.specs.declared.standing.Standing.{Standing}
use Rattle.server_core.specs.declared.standing.Standing.TheVariants.{Stranger, Publisher}
use Rattle.server_core.specs.Serving.{Setting, ServesAll}
use Rattle.publication_push.specs.Orders.{Ordered, ordered_frame, done_version, orders_of}
use Rattle.publication_push.specs.Pushes.{ordered_call}

-- the frames of a push
abbrev pub push_frames : ℕ → List Published → List Frame
push_frames count ps = map ordered_frame (orders_of count ps)

-- replies of which each is a Done, by the versions that they name
abbrev pub dones : List ℕ → List Frame
dones versions = map Done versions

-- the versions that the Dones to these orders are to name, if the server is at this one before
abbrev pub done_versions : ℕ → List Ordered → List ℕ
done_versions before [] = []
done_versions before (o ∷ os) = done_version before o ∷ done_versions (done_version before o) os

-- A server that has no draft was sent the orders of some publications in a publisher's session, and
-- each reply was a Done.
pub record IsPushed (x : Setting) (h : History) (ps : List Published) (versions : List ℕ) (new : History) (standing : Standing) : Type 0 where
  pub undrafted : h.draft ≡ h.current
  pub served : ServesAll x h Publisher (push_frames (length h.current) ps) new standing (dones versions)

-- Then its history is the one that these publications make of what it was before, and the session
-- goes on.
pub record IsAtTheLog (h : History) (ps : List Published) (new : History) (standing : Standing) : Type 0 where
  pub history : new ≡ history_replayed_all ps h
  pub version : current_version new ≡ current_version h + length ps
  pub goes_on : standing ≡ Publisher

-- a push of which each reply was a Done leaves the server's history that of the log
abbrev pub PushedIsReplayed : Type 0
PushedIsReplayed = (x : Setting) (h : History) (ps : List Published) (versions : List ℕ) (new : History) (standing : Standing) →
    IsPushed x h ps versions new standing → IsAtTheLog h ps new standing

-- if the publications follow the server's version, the Dones name the versions that are awaited
abbrev pub DonesNameTheLog : Type 0
DonesNameTheLog = (x : Setting) (h : History) (ps : List Published) (versions : List ℕ) (new : History) (standing : Standing) →
    AreNext (current_version h) ps → IsPushed x h ps versions new standing → versions ≡ done_versions (current_version h) (orders_of (length h.current) ps)

-- A server that has the history of a log's earlier publications, and of which each reply to the
-- orders of the later ones was a Done, has the history of the whole log.
abbrev pub PushesAddUp : Type 0
PushesAddUp = (x : Setting) (h : History) (earlier later : List Published) (versions : List ℕ) (new : History) (standing : Standing) →
    IsPushed x (history_replayed_all earlier h) later versions new standing → new ≡ history_replayed_all (earlier ++ later) h

-- A server that has no draft was sent a greeting and then the orders of some publications, as a
-- session's first frames. Whatever the greeting was answered, each reply after that was a Done.
pub record IsGreetedAndPushed (x : Setting) (h : History) (ps : List Published) (versions : List ℕ) (new : History) (standing : Standing) : Type 0 where
  pub profile : ℕ
  pub key : List ℕ
  pub answer : Frame
  pub undrafted : h.draft ≡ h.current
  pub served : ServesAll x h Stranger (Hello profile key ∷ push_frames (length h.current) ps) new standing (answer ∷ dones versions)

-- so it is in a whole session: no other key than the publisher's gets these Dones
abbrev pub SessionIsReplayed : Type 0
SessionIsReplayed = (x : Setting) (h : History) (ps : List Published) (versions : List ℕ) (new : History) (standing : Standing) →
    IsGreetedAndPushed x h ps versions new standing → new ≡ history_replayed_all ps h

-- the bytes of the call that an order is are those of the order's frame
abbrev pub CallsSendTheirFrames : Type 0
CallsSendTheirFrames = (old new : ClientState) (o : Ordered) (bytes : List ℕ) → Accepts old (ordered_call o) new bytes → bytes ≡ encoding (ordered_frame o)

-- a client that made the call of an order reports nothing but a Done as a Done, and its version
abbrev pub DonesAreReplies : Type 0
DonesAreReplies = (c : ClientState) (o : Ordered) (reply : Frame) (version : ℕ) →
    (reaction_to_reply (state_after_call (ordered_call o) c) reply).reaction ≡ Reports (event.Done version) → reply ≡ Done version
