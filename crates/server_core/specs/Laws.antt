-- Laws of sessions.
use Rattle.std.specs.Prelude.{◌≡◌, ◌≢◌, ◌⊎◌, ◌≤◌, ◌+◌, ℕ, List, [], ◌∷◌, ◌++◌, length, take, true, false, Option, Some, None, Result, Ok, Err}
use Rattle.std.specs.declared.alloc.AllocError.{AllocError}
use Rattle.pir_schemes.specs.declared.scheme.Scheme.{Scheme}
use Rattle.pir_schemes.specs.Retrievals.{answer_words}
use Rattle.frame_codec.specs.declared.frame.Frame.{Frame}
use Rattle.frame_codec.specs.declared.frame.Frame.TheVariants.{Query, Answer, Done}
use Rattle.frame_codec.specs.declared.refusal.Refusal.TheVariants as refusal
use Rattle.frame_codec.specs.Refusals.{refused}
use Rattle.frame_codec.specs.Frames.{encoding, kind_of, payload_of}
use Rattle.frame_codec.specs.declared.reader.ReadFault.{ReadFault}
use Rattle.frame_codec.specs.declared.reader.ReadFault.TheVariants.{Memory}
use Rattle.frame_codec.specs.Streams.{Feeds, is_kind}
use Rattle.version_store.specs.Histories.{StoreState, History, StandsFor, current_version}
use Rattle.server_core.specs.declared.standing.Standing.{Standing}
use Rattle.server_core.specs.Courses.{course_of_piece, lacks_memory, FeedsWithMemory, WasShortOfMemory}
use Rattle.server_core.specs.Serving.{Setting, is_wide_setting, is_closed, after_frame, reply_given, words_answered}
use Rattle.server_core.specs.Sessions.{Session, FeedsSession, FeedsFirst, FeedsStore, FeedsStoreFirst, WouldPublish}

-- Sessions that nobody can tell apart: the same standing and the same unfinished bytes, of which a
-- closed session reads no more.
abbrev pub IsAlike : Session → Session → Type 0
IsAlike a b = (a.standing ≡ b.standing) × (is_closed a.standing ≡ false → a.unfinished ≡ b.unfinished)

-- What a piece leads to in an open session is the course of the frames that the session's own
-- stream completes with it, served on the history, and of the end of its reading.
abbrev pub PiecesDecide : Type 0
PiecesDecide = (x : Setting) (h : History) (old : Session) (piece : List ℕ) (done : Unit {0}) (h2 : History) (new : Session) (replies : List Frame)
    (answer : Result (Unit {0}) ReadFault) (frames : List Frame) (rest : Option (List ℕ))
    → is_closed old.standing ≡ false → FeedsSession x h old piece (Ok done) h2 new replies → lacks_memory replies ≡ false →
    Feeds (is_wide_setting x) old.unfinished piece answer frames rest → answer ≢ Err Memory
    → (record { history = h2; standing = new.standing; replies = replies } ≡ course_of_piece x h old.standing frames answer)
    × (is_closed new.standing ≡ false → new.unfinished ≡ rest)

-- The setting, the history, a session and a piece of its stream decide the history after the piece,
-- the session then and the replies, if none of these is refused for lack of memory.
abbrev pub PiecesAgree : Type 0
PiecesAgree = (x : Setting) (h : History) (old old2 : Session) (piece : List ℕ) (done done2 : Unit {0}) (after after2 : History) (new new2 : Session)
    (replies replies2 : List Frame)
    → IsAlike old old2 → FeedsSession x h old piece (Ok done) after new replies → FeedsSession x h old2 piece (Ok done2) after2 new2 replies2 →
    lacks_memory replies ≡ false → lacks_memory replies2 ≡ false
    → (after ≡ after2) × IsAlike new new2 × (replies ≡ replies2)

-- What the first frame of a piece leads to is what the bytes used up for it lead to as a piece of
-- their own.
abbrev pub FirstsArePieces : Type 0
FirstsArePieces = (x : Setting) (h : History) (old : Session) (piece : List ℕ) (count : ℕ) (h2 : History) (new : Session) (replies : List Frame) →
    FeedsFirst x h old piece (Ok count) h2 new replies → FeedsSession x h old (take count piece) (Ok tt) h2 new replies

-- If memory was refused, what the first frame of a piece leads to is what some bytes of the
-- piece lead to as one of their own.
abbrev pub StopsArePieces : Type 0
StopsArePieces = (x : Setting) (h : History) (old : Session) (piece : List ℕ) (e : AllocError) (h2 : History) (new : Session) (replies : List Frame) →
    FeedsFirst x h old piece (Err e) h2 new replies
    → (count : ℕ) × (count ≤ length piece) × FeedsSession x h old (take count piece) (Err e) h2 new replies

-- A session's pieces one after another, each with the history on which it is served, whatever
-- others did between them: the history after each and its replies, and the session after them all.
-- Memory is never refused.
abbrev pub FeedsInTurn : Setting → Session → List (History × List ℕ) → List (History × List Frame) → Session → Type 0
FeedsInTurn x old [] outcomes new = (outcomes ≡ []) × (new ≡ old)
FeedsInTurn x old (fed ∷ later) outcomes new =
    (done : Unit {0}) × (after : History) × (between : Session) × (replies : List Frame) × (others : List (History × List Frame))
    × FeedsSession x fed.0 old fed.1 (Ok done) after between replies × (lacks_memory replies ≡ false) × (outcomes ≡ (after, replies) ∷ others)
    × FeedsInTurn x between later others new

-- All that a session is answered, and what it does to the history, is decided by its own pieces and
-- by the histories on which they are served.
abbrev pub SessionsNeverMeet : Type 0
SessionsNeverMeet = (x : Setting) (pieces : List (History × List ℕ)) (old old2 : Session) (outcomes outcomes2 : List (History × List Frame))
    (new new2 : Session)
    → IsAlike old old2 → FeedsInTurn x old pieces outcomes new → FeedsInTurn x old2 pieces outcomes2 new2 → (outcomes ≡ outcomes2) × IsAlike new new2

-- Pieces of the streams of several sessions, each with its session's number, one after another:
-- each is served on the history that those before it left. Given are the sessions before and after
-- them all by their numbers, the history after them, and the replies to each. Memory is never
-- refused.
abbrev pub ServesStreams : Setting → History → (ℕ → Session) → List (ℕ × List ℕ) → History → (ℕ → Session) → List (List Frame) → Type 0
ServesStreams x h before [] end after replies = (end ≡ h) × (after ≡ before) × (replies ≡ [])
ServesStreams x h before (fed ∷ later) end after replies =
    (done : Unit {0}) × (next : History) × (between : ℕ → Session) × (first : List Frame) × (others : List (List Frame))
    × FeedsSession x h (before fed.0) fed.1 (Ok done) next (between fed.0) first × (lacks_memory first ≡ false)
    × ((other : ℕ) → other ≢ fed.0 → between other ≡ before other) × (replies ≡ first ∷ others) × ServesStreams x next between later end after others

-- Two servers of one setting and of equal histories, whose sessions were alike before, reply alike
-- to the same pieces of streams, of however many sessions, and have equal histories and sessions
-- alike after them, if memory is refused to neither: so equal publications keep replicas equal.
abbrev pub ReplicasReplyAlike : Type 0
ReplicasReplyAlike = (x : Setting) (h : History) (pieces : List (ℕ × List ℕ)) (before before2 : ℕ → Session) (end end2 : History)
    (after after2 : ℕ → Session) (replies replies2 : List (List Frame))
    → ((id : ℕ) → IsAlike (before id) (before2 id)) → ServesStreams x h before pieces end after replies →
    ServesStreams x h before2 pieces end2 after2 replies2
    → (replies ≡ replies2) × (end ≡ end2) × ((id : ℕ) → IsAlike (after id) (after2 id))

-- What two feeds have in common: what they wrote, the session then with its unfinished bytes, and
-- the history after them.
pub record SameFeed (before after before2 after2 : List ℕ) (new new2 : Session) (end end2 : History) : Type 0 where
  pub written : List ℕ
  pub first : after ≡ before ++ written
  pub second : after2 ≡ before2 ++ written
  pub session : new ≡ new2
  pub history : end ≡ end2

-- If memory is refused to none of them, what a feed writes, the session after it and the history
-- after it are decided by the piece, by that session's standing and unfinished bytes before it, by
-- the history and by the setting, whatever other sessions there are. The session after it is its
-- standing and all of its unfinished bytes, of a closed session, too.
abbrev pub FeedsAreAlike : Type 0
FeedsAreAlike = (x : Setting) (h : History) (old : Session) (piece : List ℕ) (done done2 : Unit {0}) (store store2 : StoreState) (new new2 : Session)
    (before after before2 after2 : List ℕ)
    → (f : FeedsStore x h old piece (Ok done) store new before after) → (g : FeedsStore x h old piece (Ok done2) store2 new2 before2 after2) →
    FeedsWithMemory x h old piece f.history new f.replies → FeedsWithMemory x h old piece g.history new2 g.replies
    → SameFeed before after before2 after2 new new2 f.history g.history

-- a piece that was served to its end was served without a refusal of memory, or one can be named
abbrev pub FeedsHadMemory : Type 0
FeedsHadMemory = (x : Setting) (h : History) (old : Session) (piece : List ℕ) (done : Unit {0}) (h2 : History) (new : Session) (replies : List Frame) →
    FeedsSession x h old piece (Ok done) h2 new replies
    → FeedsWithMemory x h old piece h2 new replies ⊎ WasShortOfMemory x old piece new replies

-- replies alike: the same, but for the words of an answer, of which there are as many
abbrev pub AreAlikeReplies : Frame → Frame → Type 0
AreAlikeReplies (Answer scheme version words) other = (others : List ℕ) × (other ≡ Answer scheme version others) × (length others ≡ length words)
AreAlikeReplies reply other = other ≡ reply

-- Two queries, each on a history of its own, are answered alike: nothing but the reply comes of
-- either, and these have one kind, one version, one count and one length.
pub record AnsweredAlike (x : Setting) (h g : History) (st : Standing) (query other : Frame) : Type 0 where
  pub reply : Frame
  pub reply2 : Frame
  pub first : after_frame x h st query ≡ reply_given reply st h
  pub second : after_frame x g st other ≡ reply_given reply2 st g
  pub alike : AreAlikeReplies reply reply2
  pub kind : kind_of reply ≡ kind_of reply2
  pub len : length (payload_of reply) ≡ length (payload_of reply2)

-- The reply to a query is, but for an answer's words, a function of the setting, the history, the
-- standing, and the query's scheme, version and word count: the words decide nothing else.
abbrev pub RepliesHoldNoIndex : Type 0
RepliesHoldNoIndex = (x : Setting) (h : History) (st : Standing) (scheme version : ℕ) (words others : List ℕ) → length words ≡ length others
    → AnsweredAlike x h h st (Query scheme version words) (Query scheme version others)

-- Of the history, the number of the current version and its record count alone decide the kind and
-- the length of a reply to a query: what the records are, and how long each of them is, changes
-- neither.
abbrev pub RepliesHoldNoLength : Type 0
RepliesHoldNoLength = (x : Setting) (h g : History) (st : Standing) (scheme version : ℕ) (words others : List ℕ)
    → current_version h ≡ current_version g → length h.current ≡ length g.current → length words ≡ length others
    → AnsweredAlike x h g st (Query scheme version words) (Query scheme version others)

-- an answer has as many words as its layout, its scheme and the dimension give
abbrev pub AnswersHaveTheirLayoutsLength : Type 0
AnswersHaveTheirLayoutsLength = (x : Setting) (h : History) (scheme : Scheme) (words : List ℕ) →
    length (answer_words scheme x.plan h.current words) ≡ words_answered x scheme h.current

-- a reply, if there is one, has a kind of frames that the streams of a setting have
abbrev pub HasKnownKind : Setting → Option Frame → Type 0
HasKnownKind x None = Unit {0}
HasKnownKind x (Some reply) = is_kind (is_wide_setting x) (kind_of reply) ≡ true

-- No frame leads to a reply of a kind that the session's stream doesn't have: the kinds of a wide
-- store are sent to its own sessions alone.
abbrev pub RepliesHaveKnownKinds : Type 0
RepliesHaveKnownKinds = (x : Setting) (h : History) (st : Standing) (f : Frame) → HasKnownKind x (after_frame x h st f).reply

-- A publication that was foreseen is made and told, or memory is refused to it, and the version
-- stays.
abbrev pub ForeseenArePublished : Type 0
ForeseenArePublished = (x : Setting) (h : History) (s : Session) (piece : List ℕ) (store : StoreState) (count : ℕ) (after : StoreState) (new : Session)
    (out written : List ℕ)
    → StandsFor store h → WouldPublish s piece store → FeedsStoreFirst x h s piece (Ok count) after new out written
    → ((after.version ≡ store.version + 1) × (written ≡ out ++ encoding (Done (store.version + 1))))
    ⊎ ((after.version ≡ store.version) × (written ≡ out ++ encoding (refused refusal.Memory)))
