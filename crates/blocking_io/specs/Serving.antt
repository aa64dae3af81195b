-- What a session over a reader and a writer leads to.
use Rattle.std.specs.Prelude.{◌≡◌, ◌≤◌, ℕ, List, [], ◌++◌, length, take, Bool, true, false, Option, Some, Result, Ok, Err}
use Rattle.std.specs.Io.KnownBytes.{IsAtEnd}
use Rattle.std.specs.declared.alloc.AllocError.{AllocError}
use Rattle.version_store.specs.Histories.{StoreState, History, StandsFor}
use Rattle.server_core.specs.Cores.{Core, session_of}
use Rattle.server_core.specs.Serving.{Setting, setting_of, is_closed}
use Rattle.server_core.specs.Sessions.{Session, new_session, FeedsStore}
use Rattle.blocking_io.specs.declared.serving.Ending.{Ending}
use Rattle.blocking_io.specs.declared.serving.Ending.TheVariants.{Closed, EndOfInput}
use Rattle.blocking_io.specs.declared.serving.ServeFault.{ServeFault}
use Rattle.blocking_io.specs.declared.serving.ServeFault.TheVariants.{IdInUse, Read, Write, Memory, TurnsUsedUp}
use Rattle.blocking_io.specs.Prefixes.{IsCutOff}

-- Of some bytes of a session's stream so many were served, as one piece: these are the replies. The
-- others were not looked at.
pub record FedPart (x : Setting) (h : History) (old : Session) (piece : List ℕ) (answer : Result (Unit {0}) AllocError) (store : StoreState) (new : Session)
    (out : List ℕ) : Type 0 where
  pub part : List ℕ
  pub rest : List ℕ
  pub whole : piece ≡ part ++ rest
  pub fed : FeedsStore x h old part answer store new [] out

-- All of them were served, or those up to the end of the frame that closed the session.
pub record FedWhole (x : Setting) (h : History) (old : Session) (piece : List ℕ) (store : StoreState) (new : Session) (out : List ℕ) : Type 0 where
  pub parts : FedPart x h old piece (Ok tt) store new out
  pub all : is_closed new.standing ≡ false → parts.rest ≡ []

-- All that was read was served, as one piece of the stream of a session opened just now, up to the
-- frame that closed it, if one did: these are the replies, and so the session was left.
abbrev pub IsStreamServed : Setting → History → List ℕ → List ℕ → StoreState → Bool → Type 0
IsStreamServed x h read out store shut = (s : Session) × FedWhole x h new_session read store s out × (is_closed s.standing ≡ shut)

-- What was written for what was read, by the answer: the store stands for the history after it.
abbrev pub ServesStream : Setting → History → ℕ → Result Ending ServeFault → List ℕ → List ℕ → Option (List ℕ) → StoreState → Type 0
ServesStream x h turns (Ok Closed) read out left store = IsStreamServed x h read out store true
ServesStream x h turns (Ok EndOfInput) read out left store = IsStreamServed x h read out store false × IsAtEnd left
ServesStream x h turns (Err IdInUse) read out left store = (read ≡ []) × (out ≡ [])
ServesStream x h turns (Err Read) read out left store = IsStreamServed x h read out store false
ServesStream x h turns (Err Write) read out left store =
    (s : Session) × (answer : Result (Unit {0}) AllocError) × (owed : List ℕ) × FedPart x h new_session read answer store s owed × IsCutOff out owed
ServesStream x h turns (Err Memory) read out left store = (s : Session) × (answer : Result (Unit {0}) AllocError)
    × FedPart x h new_session read answer store s out × (answer ≡ Ok tt → read ≡ [])
ServesStream x h turns (Err TurnsUsedUp) read out left store = IsStreamServed x h read out store false × (turns ≤ length read)

-- What was written for the first frame of a piece, by the answer: so many bytes of the piece were
-- served.
abbrev pub ServesFirst : Setting → History → Session → List ℕ → Result ℕ ServeFault → StoreState → Option Session → List ℕ → Type 0
ServesFirst x h old piece (Ok count) store new bytes = (s : Session) × (new ≡ Some s) × FeedsStore x h old (take count piece) (Ok tt) store s [] bytes
ServesFirst x h old piece (Err IdInUse) store new bytes = ⊥
ServesFirst x h old piece (Err Read) store new bytes = ⊥
ServesFirst x h old piece (Err Write) store new bytes =
    (s : Session) × (answer : Result (Unit {0}) AllocError) × (owed : List ℕ) × FedPart x h old piece answer store s owed × IsCutOff bytes owed
ServesFirst x h old piece (Err Memory) store new bytes = (s : Session) × (e : AllocError) × FedPart x h old piece (Err e) store s bytes
ServesFirst x h old piece (Err TurnsUsedUp) store new bytes = ⊥

-- what was written for the first frame of a piece, for each history that the store represents and
-- the session of this number
abbrev pub ServesFrameThere : Core → ℕ → List ℕ → Result ℕ ServeFault → Core → List ℕ → Type 0
ServesFrameThere before id piece answer after bytes = (h : History) → StandsFor before.store h → (old : Session) → session_of before.sessions id ≡ Some old →
    ServesFirst (setting_of before.store) h old piece answer after.store (session_of after.sessions id) bytes

-- what was written for one piece of a session's stream, and the session then
abbrev pub ServesStreamPiece : Setting → History → Session → List ℕ → Result (Unit {0}) ServeFault → StoreState → Option Session → List ℕ → Type 0
ServesStreamPiece x h old piece (Ok done) store new bytes = (s : Session) × (new ≡ Some s) × FedWhole x h old piece store s bytes
ServesStreamPiece x h old piece (Err IdInUse) store new bytes = ⊥
ServesStreamPiece x h old piece (Err Read) store new bytes = ⊥
ServesStreamPiece x h old piece (Err Write) store new bytes =
    (s : Session) × (answer : Result (Unit {0}) AllocError) × (owed : List ℕ) × FedPart x h old piece answer store s owed × IsCutOff bytes owed
ServesStreamPiece x h old piece (Err Memory) store new bytes = (s : Session) × (e : AllocError) × FedPart x h old piece (Err e) store s bytes
ServesStreamPiece x h old piece (Err TurnsUsedUp) store new bytes = ⊥
