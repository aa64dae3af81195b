-- What a piece of its stream does to a session.
use Rattle.std.specs.Prelude.{◌≡◌, ◌≢◌, ◌⊎◌, ℕ, ◌<◌, List, [], ◌∷◌, ◌++◌, length, take, Bool, true, false, Option, Some, None, MatchBool, Result, Ok, Err, IsErr, IsSome, option_to_list}
use Rattle.std.specs.List.{flat_map, AllByRecursion}
use Rattle.std.specs.declared.alloc.AllocError.{AllocError}
use Rattle.version_store.specs.Histories.{StoreState, History, StandsFor}
use Rattle.frame_codec.specs.declared.frame.Frame.{Frame}
use Rattle.frame_codec.specs.declared.refusal.Refusal.TheVariants as refusal
use Rattle.frame_codec.specs.Refusals.{refused}
use Rattle.frame_codec.specs.declared.reader.ReadFault.{ReadFault}
use Rattle.frame_codec.specs.declared.reader.ReadFault.TheVariants.{TooLong, UnknownKind, BadPayload, Memory, Failed}
use Rattle.frame_codec.specs.Frames.{IsFrame, encoding}
use Rattle.frame_codec.specs.declared.reader.FrameRead.{FrameRead}
use Rattle.frame_codec.specs.Streams.{Feeds, FeedsFrame, HasPublishNext, HasQueryNext, SeesFrame}
use Rattle.frame_codec.specs.declared.frame.Frame.TheVariants.{Query}
use Rattle.frame_codec.specs.declared.ahead.QueryHead.{QueryHead}
use Rattle.pir_schemes.specs.declared.scheme.Scheme.{Scheme}
use Rattle.pir_schemes.specs.Schemes.{scheme_of_byte}
use Rattle.server_core.specs.declared.standing.Standing.{Standing}
use Rattle.server_core.specs.declared.standing.Standing.TheVariants.{Stranger, Closed}
use Rattle.server_core.specs.declared.session.Coming.{Coming}
use Rattle.server_core.specs.declared.session.Coming.TheVariants.{Short, LongAnswer, Publication}
use Rattle.server_core.specs.Serving.{Setting, is_wide_setting, setting_of, ServesAll, ServedAll, MayPublish, is_closed, is_welcome, words_asked}

-- who the session speaks for, and the bytes of its unfinished frame, which are None once its stream
-- has failed
pub record Session : Type 0 where
  pub standing : Standing
  pub unfinished : Option (List ℕ)

-- a session that was opened just now
abbrev pub new_session : Session
new_session = record { standing = Stranger; unfinished = Some [] }

-- the stream of an open session has not failed
abbrev pub IsLive : Standing → Option (List ℕ) → Type 0
IsLive standing unfinished = is_closed standing ≡ false → unfinished ≢ None

-- what the end of a piece does to a session that its frames leave open, and the replies to it: a
-- fault is refused, and closes it
abbrev pub AfterReading : Result (Unit {0}) ReadFault → Standing → Standing → List Frame → Type 0
AfterReading (Ok done) middle after more = (after ≡ middle) × (more ≡ [])
AfterReading (Err TooLong) middle after more = (after ≡ Closed) × (more ≡ refused refusal.BadFrame ∷ [])
AfterReading (Err UnknownKind) middle after more = (after ≡ Closed) × (more ≡ refused refusal.BadFrame ∷ [])
AfterReading (Err BadPayload) middle after more = (after ≡ Closed) × (more ≡ refused refusal.BadFrame ∷ [])
AfterReading (Err Memory) middle after more = ⊥
AfterReading (Err Failed) middle after more = ⊥

-- the end of a piece if the frames may have closed the session: then nothing more is said
abbrev pub EndsPiece : Result (Unit {0}) ReadFault → Standing → Standing → List Frame → Type 0
EndsPiece answer middle after more = MatchBool (is_closed middle) ((after ≡ middle) × (more ≡ [])) (AfterReading answer middle after more)

-- Memory was refused after so many frames of a piece: before another of them, or after them all, if
-- the reading stopped with a fault.
abbrev pub IsStop : Result (Unit {0}) ReadFault → List Frame → ℕ → Type 0
IsStop answer frames count = (count < length frames) ⊎ ((count ≡ length frames) × IsErr answer)

-- the reading stopped without a fault that could be reported: memory was refused to it, or it had
-- stopped before
abbrev pub IsUnjudged : Result (Unit {0}) ReadFault → Type 0
IsUnjudged (Ok done) = ⊥
IsUnjudged (Err TooLong) = ⊥
IsUnjudged (Err UnknownKind) = ⊥
IsUnjudged (Err BadPayload) = ⊥
IsUnjudged (Err Memory) = Unit {0}
IsUnjudged (Err Failed) = Unit {0}

-- the frames that the piece completes are served in order, and then a fault is reported
pub record ServesPiece (x : Setting) (h : History) (old : Session) (piece : List ℕ) (h2 : History) (new : Session) (replies : List Frame) : Type 0 where
  pub answer : Result (Unit {0}) ReadFault
  pub frames : List Frame
  pub middle : Standing
  pub reported : List Frame
  pub more : List Frame
  pub reads : Feeds (is_wide_setting x) old.unfinished piece answer frames new.unfinished
  pub serves : ServesAll x h old.standing frames h2 middle reported
  pub ends : EndsPiece answer middle new.standing more
  pub all : replies ≡ reported ++ more

-- memory was refused after some of them: those are served, no other is, and the session is closed
pub record ClosesForMemory (x : Setting) (h : History) (old : Session) (piece : List ℕ) (h2 : History) (new : Session) (replies : List Frame) : Type 0 where
  pub answer : Result (Unit {0}) ReadFault
  pub frames : List Frame
  pub count : ℕ
  pub middle : Standing
  pub reads : Feeds (is_wide_setting x) old.unfinished piece answer frames new.unfinished
  pub stop : IsStop answer frames count
  pub serves : ServesAll x h old.standing (take count frames) h2 middle replies
  pub goes_on : is_closed middle ≡ false
  pub shut : new.standing ≡ Closed

-- What a piece does to a session, and the history after it and the replies. A closed session takes
-- bytes and replies nothing. At an error memory was refused.
abbrev pub FeedsSession : Setting → History → Session → List ℕ → Result (Unit {0}) AllocError → History → Session → List Frame → Type 0
FeedsSession x h old piece (Ok done) h2 new replies =
    MatchBool (is_closed old.standing) ((h2 ≡ h) × (new ≡ old) × (replies ≡ [])) (ServesPiece x h old piece h2 new replies)
FeedsSession x h old piece (Err e) h2 new replies = (is_closed old.standing ≡ false) × ClosesForMemory x h old piece h2 new replies

-- A store was fed a session's piece: it stands for the history after it in the same setting, and
-- the replies are written.
pub record FeedsStore (x : Setting) (h : History) (old : Session) (piece : List ℕ) (result : Result (Unit {0}) AllocError) (store : StoreState) (new : Session)
    (before after : List ℕ) : Type 0 where
  pub history : History
  pub replies : List Frame
  pub setting_is : setting_of store ≡ x
  pub store_is : StandsFor store history
  pub course : FeedsSession x h old piece result history new replies
  pub written : after ≡ before ++ flat_map encoding replies
  pub each : AllByRecursion IsFrame replies

-- Memory was refused to the reading of a piece, and to nothing else: all frames that were read
-- before it are served, and `after` has their replies.
pub record IsUnread (x : Setting) (h : History) (old : Session) (piece : List ℕ) (store : StoreState) (new : Session) (before after : List ℕ) : Type 0 where
  pub refusal : AllocError
  pub fed : FeedsStore x h old piece (Err refusal) store new before after
  pub answer_is : fed.course.1.answer ≡ Err Memory
  pub all : fed.course.1.count ≡ length fed.course.1.frames

-- what the end of a piece wrote
pub record Ended (answer : Result (Unit {0}) ReadFault) (middle after : Standing) (before new : List ℕ) : Type 0 where
  pub more : List Frame
  pub ends : AfterReading answer middle after more
  pub written : new ≡ before ++ flat_map encoding more
  pub each : AllByRecursion IsFrame more

-- a piece's frames and its end, served by a store
pub record ServedFrames (x : Setting) (h : History) (st : Standing) (frames : List Frame) (answer : Result (Unit {0}) ReadFault) (store : StoreState)
    (after : Standing) (before new : List ℕ) : Type 0 where
  pub middle : Standing
  pub bytes : List ℕ
  pub more : List Frame
  pub frames_are : ServedAll x h st frames store middle before bytes
  pub ends : EndsPiece answer middle after more
  pub written : new ≡ bytes ++ flat_map encoding more
  pub each : AllByRecursion IsFrame more

-- memory was refused after some of a piece's frames
pub record StoppedFrames (x : Setting) (h : History) (st : Standing) (frames : List Frame) (answer : Result (Unit {0}) ReadFault) (store : StoreState)
    (before new : List ℕ) : Type 0 where
  pub count : ℕ
  pub middle : Standing
  pub stop : IsStop answer frames count
  pub goes_on : is_closed middle ≡ false
  pub frames_are : ServedAll x h st (take count frames) store middle before new

-- all frames of a piece were served, and leave the session open
pub record ServedOpen (x : Setting) (h : History) (st : Standing) (frames : List Frame) (store : StoreState) (before new : List ℕ) : Type 0 where
  pub middle : Standing
  pub goes_on : is_closed middle ≡ false
  pub frames_are : ServedAll x h st frames store middle before new

-- ---- one frame of a piece

-- the frame that a reader completed, if it completed one
abbrev pub frames_taken : Result FrameRead ReadFault → List Frame
frames_taken (Ok taken) = option_to_list taken.frame
frames_taken (Err fault) = []

-- how many bytes of a piece are used up: those that the reader took, or, after a fault, all
abbrev pub bytes_used : List ℕ → Result FrameRead ReadFault → ℕ
bytes_used piece (Ok taken) = taken.count
bytes_used piece (Err fault) = length piece

-- how the reading ended
abbrev pub reading_end : Result FrameRead ReadFault → Result (Unit {0}) ReadFault
reading_end (Ok taken) = Ok tt
reading_end (Err fault) = Err fault

-- The next frame of a session's stream, which a piece completes, is a publication that is made
-- unless memory is refused.
pub record WouldPublish (s : Session) (piece : List ℕ) (store : StoreState) : Type 0 where
  pub next : HasPublishNext s.unfinished piece
  pub may : MayPublish s.standing store

-- The next frame of a session's stream, which a piece completes, is a query that is answered unless
-- memory is refused: the session is welcome, there is this scheme, and its version and the count of
-- its words are those of the store.
pub record WouldAnswer (s : Session) (piece : List ℕ) (store : StoreState) (scheme : Scheme) : Type 0 where
  pub head : QueryHead
  pub next : HasQueryNext s.unfinished piece head
  pub welcome : is_welcome s.standing ≡ true
  pub scheme_is : scheme_of_byte head.scheme ≡ Some scheme
  pub version_is : head.version ≡ store.version
  pub count_is : head.count ≡ words_asked (setting_of store) scheme store.edition.records

-- These are the words of the next frame of a session's stream, which a piece completes.
abbrev pub HasWordsNext : Bool → Session → List ℕ → List ℕ → Type 0
HasWordsNext wide s piece words = (scheme : ℕ) × (version : ℕ) × SeesFrame wide s.unfinished piece (Ok (Some (Query scheme version words)))

-- what feeding a piece of a session's stream would do first
abbrev pub IsComing : Coming → Session → List ℕ → StoreState → Type 0
IsComing Short s piece store = WouldPublish s piece store → ⊥
IsComing (LongAnswer scheme) s piece store = WouldAnswer s piece store scheme
IsComing Publication s piece store = WouldPublish s piece store

-- The first frame that a piece completes is served, or a fault in its place is reported: so many
-- bytes of the piece are used up.
pub record ServesFrame (x : Setting) (h : History) (old : Session) (piece : List ℕ) (count : ℕ) (h2 : History) (new : Session) (replies : List Frame) : Type 0 where
  pub answer : Result FrameRead ReadFault
  pub middle : Standing
  pub reported : List Frame
  pub more : List Frame
  pub reads : FeedsFrame (is_wide_setting x) old.unfinished piece answer new.unfinished
  pub count_is : count ≡ bytes_used piece answer
  pub serves : ServesAll x h old.standing (frames_taken answer) h2 middle reported
  pub ends : EndsPiece (reading_end answer) middle new.standing more
  pub all : replies ≡ reported ++ more

-- there was a frame to be served, or a fault to be reported
abbrev pub HasTaken : Result FrameRead ReadFault → Type 0
HasTaken (Ok taken) = IsSome taken.frame
HasTaken (Err fault) = Unit {0}

-- memory for that was refused: nothing was served, and the session is closed
pub record ClosesBeforeFrame (x : Setting) (h : History) (old : Session) (piece : List ℕ) (h2 : History) (new : Session) (replies : List Frame) : Type 0 where
  pub answer : Result FrameRead ReadFault
  pub reads : FeedsFrame (is_wide_setting x) old.unfinished piece answer new.unfinished
  pub stop : HasTaken answer
  pub same : h2 ≡ h
  pub none : replies ≡ []
  pub shut : new.standing ≡ Closed

-- memory was refused to the reading of the first frame
abbrev pub IsFirstUnread : Setting → Option (List ℕ) → List ℕ → Option (List ℕ) → Type 0
IsFirstUnread x old piece new = FeedsFrame (is_wide_setting x) old piece (Err Memory) new

-- What the first frame of a piece does to a session, as `FeedsSession` of a whole piece. A closed
-- session takes all of it.
abbrev pub FeedsFirst : Setting → History → Session → List ℕ → Result ℕ AllocError → History → Session → List Frame → Type 0
FeedsFirst x h old piece (Ok count) h2 new replies =
    MatchBool (is_closed old.standing) ((count ≡ length piece) × (h2 ≡ h) × (new ≡ old) × (replies ≡ []))
    (ServesFrame x h old piece count h2 new replies)
FeedsFirst x h old piece (Err e) h2 new replies = (is_closed old.standing ≡ false) × ClosesBeforeFrame x h old piece h2 new replies

-- A store was fed the first frame of a session's piece: it stands for the history after it in the
-- same setting, and the reply is written.
pub record FeedsStoreFirst (x : Setting) (h : History) (old : Session) (piece : List ℕ) (result : Result ℕ AllocError) (store : StoreState) (new : Session)
    (before after : List ℕ) : Type 0 where
  pub history : History
  pub replies : List Frame
  pub setting_is : setting_of store ≡ x
  pub store_is : StandsFor store history
  pub course : FeedsFirst x h old piece result history new replies
  pub written : after ≡ before ++ flat_map encoding replies
  pub each : AllByRecursion IsFrame replies
