-- What a server does with calls and pieces, as its core says it, and what of its replies waits.
use Rattle.std.specs.Prelude.{◌≡◌, ◌≢◌, ◌<◌, ◌≤◌, ◌+◌, ◌^◌, ◌↔◌, ℕ, List, [], length, take, true, false, None, Some, Result, Ok, Err, IfOk, OnOk, OnErr, IsErrOf, IsSome}
use Rattle.snapshot_file.specs.declared.snapshot.Header.{Header}
use Rattle.snapshot_file.specs.Snapshots.{snapshot_bytes, IsSnapshot}
use Rattle.digit_pack.specs.Layout.{is_layout}
use Rattle.pir_schemes.specs.Plans.{fits, records_held, shape_at}
use Rattle.version_store.specs.declared.store.EditError.{EditError}
use Rattle.version_store.specs.declared.store.EditError.TheVariants as edit
use Rattle.version_store.specs.declared.store.AppendError.{AppendError}
use Rattle.version_store.specs.declared.store.AppendError.TheVariants as append
use Rattle.version_store.specs.declared.store.PublishError.{PublishError}
use Rattle.version_store.specs.declared.store.PublishError.TheVariants as publication
use Rattle.version_store.specs.Histories.{History, StandsFor, opened, after_edit, after_append, published, held_edited, held_appended, held_published}
use Rattle.version_store.specs.Openings.{held_of, plan_held}
use Rattle.server_core.specs.declared.server.FeedError.{FeedError}
use Rattle.server_core.specs.declared.server.FeedError.TheVariants as feed
use Rattle.server_core.specs.declared.server.SessionError.{SessionError}
use Rattle.server_core.specs.declared.server.SessionError.TheVariants as opening
use Rattle.server_core.specs.Cores.{session_of, FeedsCore, FeedsCoreFirst, OnNoSession}
use Rattle.server_core.specs.Serving.{setting_of}
use Rattle.server_core.specs.Sessions.{Session, new_session}
use Rattle.foreign_sessions.specs.declared.server.ServerSession.{ServerSession}
use Rattle.foreign_sessions.specs.declared.server.PieceFault.{PieceFault}
use Rattle.foreign_sessions.specs.declared.server.PieceFault.TheVariants as fault

-- a server of the snapshot file that these bytes are, with no session and no replies
pub record OpensServer (bytes : List ℕ) (s : ServerSession) : Type 0 where
  pub header : Header
  pub records : List ℕ
  pub snapshot : IsSnapshot header records
  pub file : bytes ≡ snapshot_bytes header records
  pub store : s.core.store ≡ held_of header records
  pub history : StandsFor s.core.store (opened header.version (records_held (plan_held header) header.count records))
  pub none : (id : ℕ) → session_of s.core.sessions id ≡ None
  pub silent : s.replies.items ≡ []

-- what the opening of a session did: there is a new one; or there was one of this number, or memory
-- was refused, and nothing changed
pub record OpensSession (old : ServerSession) (id : ℕ) (answer : Result (Unit {0}) SessionError) (new : ServerSession) : Type 0 where
  pub opened : OnOk answer (session_of new.core.sessions id ≡ Some new_session)
  pub in_use : IsErrOf answer opening.IdInUse ↔ IsSome (session_of old.core.sessions id)
  pub others : (other : ℕ) → other ≢ id → session_of new.core.sessions other ≡ session_of old.core.sessions other
  pub store : new.core.store ≡ old.core.store
  pub refused : OnErr answer (new.core ≡ old.core)
  pub replies : new.replies ≡ old.replies

-- what a piece of a session did: the replies to it wait now, and no other session changed
pub record ServesWholePiece (old : ServerSession) (id : ℕ) (piece : List ℕ) (answer : Result (Unit {0}) FeedError) (new : ServerSession) : Type 0 where
  pub silent : length old.replies.items ≡ 0
  pub fed : (h : History) → StandsFor old.core.store h → (was : Session) → session_of old.core.sessions id ≡ Some was →
      (is : Session) × (session_of new.core.sessions id ≡ Some is)
      × FeedsCore (setting_of old.core.store) h was piece answer new.core.store is old.replies.items new.replies.items
  pub no_session : IsErrOf answer feed.NoSession ↔ (session_of old.core.sessions id ≡ None)
  pub unchanged : OnNoSession answer ((new.core ≡ old.core) × (new.replies.items ≡ old.replies.items))
  pub others : (other : ℕ) → other ≢ id → session_of new.core.sessions other ≡ session_of old.core.sessions other

-- what a piece of a session did, as the answer says: replies waited, and nothing changed; or it was
-- served
abbrev pub FeedsServerSession : ServerSession → ℕ → List ℕ → Result (Unit {0}) PieceFault → ServerSession → Type 0
FeedsServerSession old id piece (Ok done) new = ServesWholePiece old id piece (Ok done) new
FeedsServerSession old id piece (Err fault.Untaken) new = (0 < length old.replies.items) × (new ≡ old)
FeedsServerSession old id piece (Err (fault.Server e)) new = ServesWholePiece old id piece (Err e) new

-- What the first frame of a piece did, of which so many bytes were taken: what these do as a piece
-- of their own. All bytes of the piece are taken, or those up to the end of the first frame that
-- they make whole, and one at least if there is one. Its reply waits now, and no other session
-- changed.
pub record ServesFirstFrame (old : ServerSession) (id : ℕ) (piece : List ℕ) (answer : Result ℕ FeedError) (new : ServerSession) : Type 0 where
  pub silent : length old.replies.items ≡ 0
  pub fed : (h : History) → StandsFor old.core.store h → (was : Session) → session_of old.core.sessions id ≡ Some was →
      (is : Session) × (session_of new.core.sessions id ≡ Some is)
      × FeedsCoreFirst (setting_of old.core.store) h was piece answer new.core.store is old.replies.items new.replies.items
  pub as_piece : IfOk answer (λ taken. ServesWholePiece old id (take taken piece) (Ok tt) new)
  pub within : IfOk answer (λ taken. taken ≤ length piece)
  pub some : IfOk answer (λ taken. 0 < length piece → 0 < taken)
  pub no_session : IsErrOf answer feed.NoSession ↔ (session_of old.core.sessions id ≡ None)
  pub refused : OnErr answer ((new.core.store ≡ old.core.store) × (new.replies.items ≡ old.replies.items))
  pub unchanged : OnNoSession answer ((new.core ≡ old.core) × (new.replies.items ≡ old.replies.items))
  pub others : (other : ℕ) → other ≢ id → session_of new.core.sessions other ≡ session_of old.core.sessions other

-- what the first frame of a piece did, as the answer says: replies waited, and nothing changed; or
-- it was served
abbrev pub FeedsServerFirst : ServerSession → ℕ → List ℕ → Result ℕ PieceFault → ServerSession → Type 0
FeedsServerFirst old id piece (Ok taken) new = ServesFirstFrame old id piece (Ok taken) new
FeedsServerFirst old id piece (Err fault.Untaken) new = (0 < length old.replies.items) × (new ≡ old)
FeedsServerFirst old id piece (Err (fault.Server e)) new = ServesFirstFrame old id piece (Err e) new

-- what an edit of the draft did: the record is replaced in it; or there is no such record, or the
-- bytes can't be one, or memory was refused, and the store is as it was
pub record EditsDraft (old : ServerSession) (i : ℕ) (bytes : List ℕ) (answer : Result (Unit {0}) EditError) (new : ServerSession) : Type 0 where
  pub accepted : OnOk answer (new.core.store ≡ held_edited i bytes old.core.store)
  pub history : OnOk answer ((h : History) → StandsFor old.core.store h → StandsFor new.core.store (after_edit i bytes h))
  pub bad_index : IsErrOf answer edit.BadIndex ↔ (length old.core.store.draft ≤ i)
  pub bad_length : IsErrOf answer edit.BadLength ↔ (i < length old.core.store.draft) × (fits old.core.store.edition.plan bytes ≡ false)
  pub refused : OnErr answer (new.core.store ≡ old.core.store)
  pub sessions : new.core.sessions ≡ old.core.sessions
  pub replies : new.replies ≡ old.replies

-- what an append to the draft did: the record comes after the others; or the bytes can't be one, or
-- there is no layout of one record more, or memory was refused, and the store is as it was
pub record AppendsToDraft (old : ServerSession) (bytes : List ℕ) (answer : Result (Unit {0}) AppendError) (new : ServerSession) : Type 0 where
  pub accepted : OnOk answer (new.core.store ≡ held_appended bytes old.core.store)
  pub history : OnOk answer ((h : History) → StandsFor old.core.store h → StandsFor new.core.store (after_append bytes h))
  pub bad_length : IsErrOf answer append.BadLength ↔ (fits old.core.store.edition.plan bytes ≡ false)
  pub full : IsErrOf answer append.Full ↔ (fits old.core.store.edition.plan bytes ≡ true)
      × (is_layout (shape_at old.core.store.edition.plan (length old.core.store.draft + 1)) ≡ false)
  pub refused : OnErr answer (new.core.store ≡ old.core.store)
  pub sessions : new.core.sessions ≡ old.core.sessions
  pub replies : new.replies ≡ old.replies

-- what a publication did: the draft is the current version, and its number is returned; or there
-- was nothing to publish, or no further number, or memory was refused, and the store is as it was
pub record PublishesDraft (old : ServerSession) (answer : Result ℕ PublishError) (new : ServerSession) : Type 0 where
  pub version : IfOk answer (λ v. (v ≡ old.core.store.version + 1) × (v < 2 ^ 64))
  pub done : OnOk answer (new.core.store ≡ held_published old.core.store)
  pub history : OnOk answer ((h : History) → StandsFor old.core.store h → StandsFor new.core.store (published h))
  pub nothing : IsErrOf answer publication.NothingToPublish ↔ (old.core.store.marked ≡ false)
  pub used_up : IsErrOf answer publication.VersionsUsedUp ↔ (old.core.store.marked ≡ true) × (old.core.store.version + 1 ≡ 2 ^ 64)
  pub refused : OnErr answer (new.core.store ≡ old.core.store)
  pub sessions : new.core.sessions ≡ old.core.sessions
  pub replies : new.replies ≡ old.replies
