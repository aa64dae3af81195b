-- What is done to a server by all its connections, and what that is to one history.
use Rattle.std.specs.Prelude.{◌≡◌, ◌≢◌, ℕ, List, [], Some, None, Result, Ok, Err}
use Rattle.std.specs.List.{FoldsTo, flat_map, AllByRecursion}
use Rattle.std.specs.declared.alloc.AllocError.{AllocError}
use Rattle.frame_codec.specs.declared.frame.Frame.{Frame}
use Rattle.frame_codec.specs.Frames.{IsFrame, encoding}
use Rattle.version_store.specs.Histories.{History, StandsFor, undrafted, without_draft}
use Rattle.server_core.specs.Cores.{Core, session_of}
use Rattle.server_core.specs.Serving.{Setting, setting_of}
use Rattle.server_core.specs.Sessions.{Session, new_session, FeedsSession, FeedsStore}

-- one thing that a connection does to the server
pub data Deed : Type 0 where
  -- it was accepted, and has this number
  Opens : (id : ℕ) → Deed
  -- these bytes of its stream were served, up to the end of a frame at most, and these are the
  -- bytes of the replies
  Serves : (id : ℕ) (piece : List ℕ) (reply : List ℕ) → Deed
  -- memory was refused after these bytes of its stream, and its session is closed
  Stops : (id : ℕ) (piece : List ℕ) → Deed
  -- it is over
  Closes : (id : ℕ) → Deed
  -- the draft is dropped, since those who edited it are gone
  Undrafts : Deed

-- no other connection's session changes
abbrev pub OthersStay : ℕ → Core → Core → Type 0
OthersStay id before after = (other : ℕ) → other ≢ id → session_of after.sessions other ≡ session_of before.sessions other

-- a piece was fed to a connection's session, as a clause of the server's call says it
abbrev pub FeedsConnection : ℕ → Core → List ℕ → Result (Unit {0}) AllocError → List ℕ → Core → Type 0
FeedsConnection id before piece result reply after = (h : History) → StandsFor before.store h → (s : Session) → session_of before.sessions id ≡ Some s →
    (t : Session) × (session_of after.sessions id ≡ Some t) × FeedsStore (setting_of before.store) h s piece result after.store t [] reply

-- what a deed does to the server
abbrev pub DoesToCore : Core → Deed → Core → Type 0
DoesToCore before (Opens id) after =
    (session_of before.sessions id ≡ None) × (session_of after.sessions id ≡ Some new_session) × (after.store ≡ before.store) × OthersStay id before after
DoesToCore before (Serves id piece reply) after =
    (session_of before.sessions id ≢ None) × FeedsConnection id before piece (Ok tt) reply after × OthersStay id before after
DoesToCore before (Stops id piece) after =
    (session_of before.sessions id ≢ None) × ((e : AllocError) × FeedsConnection id before piece (Err e) [] after) × OthersStay id before after
DoesToCore before (Closes id) after = (session_of after.sessions id ≡ None) × (after.store ≡ before.store) × OthersStay id before after
DoesToCore before Undrafts after = (after.sessions ≡ before.sessions) × (after.store ≡ without_draft before.store)

-- a server and the history that its store represents
pub record Moment : Type 0 where
  pub core : Core
  pub history : History

-- A piece of a session's stream is served on the history of its moment, and the replies to it are
-- these bytes: the history then, and the session then.
pub record ServesOn (x : Setting) (a : Moment) (id : ℕ) (piece : List ℕ) (result : Result (Unit {0}) AllocError) (reply : List ℕ) (b : Moment) : Type 0 where
  pub old : Session
  pub old_is : session_of a.core.sessions id ≡ Some old
  pub new : Session
  pub new_is : session_of b.core.sessions id ≡ Some new
  pub replies : List Frame
  pub served : FeedsSession x a.history old piece result b.history new replies
  pub reply_is : reply ≡ flat_map encoding replies
  pub each : AllByRecursion IsFrame replies

-- what a deed is to the one history
abbrev pub DoesToHistory : Setting → Moment → Deed → Moment → Type 0
DoesToHistory x a (Opens id) b = b.history ≡ a.history
DoesToHistory x a (Serves id piece reply) b = ServesOn x a id piece (Ok tt) reply b
DoesToHistory x a (Stops id piece) b = (e : AllocError) × ServesOn x a id piece (Err e) [] b
DoesToHistory x a (Closes id) b = b.history ≡ a.history
DoesToHistory x a Undrafts b = b.history ≡ undrafted a.history

-- one deed of a run
pub record RunStep (x : Setting) (a : Moment) (deed : Deed) (b : Moment) : Type 0 where
  pub setting_is : setting_of b.core.store ≡ x
  pub store_is : StandsFor b.core.store b.history
  pub core_does : DoesToCore a.core deed b.core
  pub history_does : DoesToHistory x a deed b

-- The deeds of all connections, in the order in which they were done, are one run over one history,
-- whichever connections they are of.
abbrev pub DeedsAreOneRun : Type 0
DeedsAreOneRun = (deeds : List Deed) (first last : Core) (h : History) → StandsFor first.store h → FoldsTo DoesToCore first deeds last →
    (end : History) × FoldsTo (RunStep (setting_of first.store)) (record { core = first; history = h }) deeds (record { core = last; history = end })
