-- What frames lead to if memory is never refused.
use Rattle.std.specs.Prelude.{◌≡◌, ◌≢◌, ◌⊎◌, ℕ, List, [], ◌∷◌, ◌++◌, Bool, true, false, ◌==◌, ◌||◌, cond, option_to_list, MatchBool, Result, Ok, Err}
use Rattle.frame_codec.specs.declared.frame.Frame.{Frame}
use Rattle.frame_codec.specs.declared.frame.Frame.TheVariants.{Refused}
use Rattle.frame_codec.specs.declared.refusal.Refusal.TheVariants as refusal
use Rattle.frame_codec.specs.Refusals.{code_of, refused}
use Rattle.frame_codec.specs.declared.reader.ReadFault.{ReadFault}
use Rattle.frame_codec.specs.declared.reader.ReadFault.TheVariants.{Memory}
use Rattle.frame_codec.specs.Streams.{Feeds}
use Rattle.version_store.specs.Histories.{History}
use Rattle.server_core.specs.declared.standing.Standing.{Standing}
use Rattle.server_core.specs.declared.standing.Standing.TheVariants.{Closed}
use Rattle.server_core.specs.Serving.{Setting, is_wide_setting, AfterFrame, after_frame, is_closed}
use Rattle.server_core.specs.Sessions.{Session, ServesPiece}

-- the history and the standing after some frames, and the replies
pub record SessionCourse : Type 0 where
  pub history : History
  pub standing : Standing
  pub replies : List Frame

-- a reply, and then others
abbrev pub with_reply : AfterFrame → SessionCourse → SessionCourse
with_reply o c = record { history = c.history; standing = c.standing; replies = option_to_list o.reply ++ c.replies }

-- each frame as the checks say, until the session is closed
abbrev pub course_of : Setting → History → Standing → List Frame → SessionCourse
course_of x h st [] = record { history = h; standing = st; replies = [] }
course_of x h st (f ∷ fs) =
    cond (is_closed st) (record { history = h; standing = st; replies = [] })
    (with_reply (after_frame x h st f) (course_of x (after_frame x h st f).history (after_frame x h st f).standing fs))

-- if the reading stops after frames that leave the session open: a fault is refused, and closes
-- it
abbrev pub at_end : Result (Unit {0}) ReadFault → SessionCourse → SessionCourse
at_end (Ok done) c = c
at_end (Err fault) c = record { history = c.history; standing = Closed; replies = c.replies ++ refused refusal.BadFrame ∷ [] }

-- the frames that a piece completes, and then how its reading ended
abbrev pub course_of_piece : Setting → History → Standing → List Frame → Result (Unit {0}) ReadFault → SessionCourse
course_of_piece x h st frames answer =
    cond (is_closed (course_of x h st frames).standing) (course_of x h st frames) (at_end answer (course_of x h st frames))

-- whether a reply refuses for lack of memory
abbrev pub is_memory : Frame → Bool
is_memory (Refused code) = code == code_of refusal.Memory
is_memory _ = false

-- whether one of the replies does
abbrev pub lacks_memory : List Frame → Bool
lacks_memory [] = false
lacks_memory (f ∷ fs) = is_memory f || lacks_memory fs

-- An open session's piece to which no memory was refused: not to its reading, and to none of the
-- frames that were read, so that each of them led to what the checks say.
pub record ServesWithMemory (x : Setting) (h : History) (old : Session) (piece : List ℕ) (h2 : History) (new : Session) (replies : List Frame) : Type 0 where
  pub serves : ServesPiece x h old piece h2 new replies
  pub read : serves.answer ≢ Err Memory
  pub frames_are : record { history = h2; standing = serves.middle; replies = serves.reported } ≡ course_of x h old.standing serves.frames

-- what a piece does to a session if no memory is refused; a closed session takes bytes without
-- any
abbrev pub FeedsWithMemory : Setting → History → Session → List ℕ → History → Session → List Frame → Type 0
FeedsWithMemory x h old piece h2 new replies =
    MatchBool (is_closed old.standing) ((h2 ≡ h) × (new ≡ old) × (replies ≡ [])) (ServesWithMemory x h old piece h2 new replies)

-- Memory was refused while a piece was served to its end: a reply says so, or the reading was
-- refused it after frames that had closed the session.
abbrev pub WasShortOfMemory : Setting → Session → List ℕ → Session → List Frame → Type 0
WasShortOfMemory x old piece new replies =
    (lacks_memory replies ≡ true)
    ⊎ ((frames : List Frame) × Feeds (is_wide_setting x) old.unfinished piece (Err Memory) frames new.unfinished × (is_closed new.standing ≡ true))
