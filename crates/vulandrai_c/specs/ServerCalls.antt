-- What the calls on a server's handle do.
use Rattle.std.specs.Prelude.{◌≡◌, ◌≢◌, ◌⊎◌, ℕ, List, [], length, Option, None, Some, Result, Ok, Err, is_some, if◌then◌else◌}
use Rattle.snapshot_file.specs.declared.snapshot.SnapshotFault.{SnapshotFault}
use Rattle.snapshot_file.specs.Verdicts.{MayRefuse}
use Rattle.version_store.specs.declared.store.EditError.{EditError}
use Rattle.version_store.specs.declared.store.AppendError.{AppendError}
use Rattle.version_store.specs.declared.store.PublishError.{PublishError}
use Rattle.version_store.specs.Openings.{snapshot_of}
use Rattle.server_core.specs.declared.server.SessionError.{SessionError}
use Rattle.server_core.specs.Cores.{session_of}
use Rattle.foreign_sessions.specs.declared.server.ServerSession.{ServerSession}
use Rattle.foreign_sessions.specs.declared.server.PieceFault.{PieceFault}
use Rattle.foreign_sessions.specs.Servers as session
use Rattle.vulandrai_c.specs.ServerCodes.{snapshot_code, opening_code, piece_code, frame_code, edit_code, append_code, publication_code}

-- the server of a snapshot file
abbrev pub IsServerOf : List ℕ → Option ServerSession → Type 0
IsServerOf bytes None = ⊥
IsServerOf bytes (Some s) = session.OpensServer bytes s

-- bytes that are no snapshot file, or for which memory is refused, with their code
pub record IsRefused (bytes : List ℕ) (code : ℕ) : Type 0 where
  pub fault : SnapshotFault
  pub code_is : code ≡ snapshot_code fault
  pub refused : MayRefuse fault bytes

-- what opening did: there is a server of these bytes; or they are refused, or memory for the server
-- is refused (5), and the handle is as before
abbrev pub OpensServerWithCode : Option ServerSession → List ℕ → Option ServerSession → ℕ → Type 0
OpensServerWithCode old bytes new code = ((code ≡ 0) × IsServerOf bytes new) ⊎ (IsRefused bytes code × (new ≡ old)) ⊎ ((code ≡ 5) × (new ≡ old))

-- what opening a session did, and the code of the answer
pub record OpensSessionWithCode (old : ServerSession) (id : ℕ) (new : ServerSession) (code : ℕ) : Type 0 where
  pub answer : Result (Unit {0}) SessionError
  pub code_is : code ≡ opening_code answer
  pub did : session.OpensSession old id answer new

-- what closing a session did: the session of this number is gone and no other; the code is 48 if
-- there was none
pub record ClosesSession (old : ServerSession) (id : ℕ) (new : ServerSession) (code : ℕ) : Type 0 where
  pub code_is : code ≡ (if is_some (session_of old.core.sessions id) then 0 else 48)
  pub gone : session_of new.core.sessions id ≡ None
  pub others : (other : ℕ) → other ≢ id → session_of new.core.sessions other ≡ session_of old.core.sessions other
  pub store : new.core.store ≡ old.core.store
  pub replies : new.replies ≡ old.replies

-- what a piece of a session's stream did, and the code of the answer
pub record TakesPieceWithCode (old : ServerSession) (id : ℕ) (bytes : List ℕ) (new : ServerSession) (code : ℕ) : Type 0 where
  pub answer : Result (Unit {0}) PieceFault
  pub code_is : code ≡ piece_code answer
  pub did : session.FeedsServerSession old id bytes answer new

-- how many bytes of a piece were taken by an answer, 0 if the piece was refused
abbrev pub bytes_taken : Result ℕ PieceFault → ℕ
bytes_taken (Ok taken) = taken
bytes_taken (Err fault) = 0

-- what the first frame of a piece of a session's stream did, how many bytes of the piece were
-- taken, and the code of the answer
pub record TakesFrameWithCode (old : ServerSession) (id : ℕ) (bytes : List ℕ) (taken : ℕ) (new : ServerSession) (code : ℕ) : Type 0 where
  pub answer : Result ℕ PieceFault
  pub code_is : code ≡ frame_code answer
  pub taken_is : taken ≡ bytes_taken answer
  pub did : session.FeedsServerFirst old id bytes answer new

-- the replies that wait to be sent, none if there is no server
abbrev pub replies_of : Option ServerSession → List ℕ
replies_of None = []
replies_of (Some s) = s.replies.items

-- all the replies that waited were taken; or there is room for another number of bytes (35), and
-- nothing changed
abbrev pub TakesReplies : ServerSession → ServerSession → List ℕ → List ℕ → ℕ → Type 0
TakesReplies old new before after code =
    ((code ≡ 0) × (after ≡ old.replies.items) × (new.replies.items ≡ []) × (new.core ≡ old.core))
    ⊎ ((code ≡ 35) × (length before ≢ length old.replies.items) × (after ≡ before) × (new ≡ old))

-- what an edit did, and the code of the answer
pub record EditsWithCode (old : ServerSession) (i : ℕ) (bytes : List ℕ) (new : ServerSession) (code : ℕ) : Type 0 where
  pub answer : Result (Unit {0}) EditError
  pub code_is : code ≡ edit_code answer
  pub did : session.EditsDraft old i bytes answer new

-- what an append did, and the code of the answer
pub record AppendsWithCode (old : ServerSession) (bytes : List ℕ) (new : ServerSession) (code : ℕ) : Type 0 where
  pub answer : Result (Unit {0}) AppendError
  pub code_is : code ≡ append_code answer
  pub did : session.AppendsToDraft old bytes answer new

-- what a publication did, and the code of the answer
pub record PublishesWithCode (old : ServerSession) (new : ServerSession) (code : ℕ) : Type 0 where
  pub answer : Result ℕ PublishError
  pub code_is : code ≡ publication_code answer
  pub did : session.PublishesDraft old answer new

-- the bytes of the snapshot file of a server's current version, none if there is no server
abbrev pub snapshot_bytes_of : Option ServerSession → List ℕ
snapshot_bytes_of None = []
snapshot_bytes_of (Some s) = snapshot_of s.core.store

-- the whole snapshot file was copied; or memory was refused (5); or there is room for another
-- number of bytes (35)
abbrev pub CopiesSnapshot : ServerSession → List ℕ → List ℕ → ℕ → Type 0
CopiesSnapshot s before after code =
    ((code ≡ 0) × (after ≡ snapshot_of s.core.store)) ⊎ ((code ≡ 5) × (after ≡ before))
    ⊎ ((code ≡ 35) × (length before ≢ length (snapshot_of s.core.store)) × (after ≡ before))
