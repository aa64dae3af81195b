-- What callers see of a server.
use Rattle.std.specs.Prelude.{◌≡◌, ◌⊎◌, ℕ, List, Bool, false, not, Option, Some, None, Result, Ok, Err}
use Rattle.std.specs.Map.{lookup}
use Rattle.std.specs.BTreeMap.{is_at}
use Rattle.std.specs.Ordering.{nat_cmp}
use Rattle.std.specs.declared.alloc.AllocError.{AllocError}
use Rattle.frame_codec.specs.Streams.{unfinished_size}
use Rattle.pir_schemes.specs.declared.scheme.Scheme.{Scheme}
use Rattle.version_store.specs.Histories.{StoreState, History}
use Rattle.server_core.specs.Serving.{Setting, is_closed}
use Rattle.server_core.specs.Sessions.{Session, FeedsStore, FeedsStoreFirst, IsComing, IsFirstUnread, WouldAnswer, WouldPublish}
use Rattle.server_core.specs.declared.session.Coming.{Coming}
use Rattle.server_core.specs.declared.session.Coming.TheVariants.{Short}
use Rattle.server_core.specs.declared.server.FeedError.{FeedError}
use Rattle.server_core.specs.declared.server.FeedError.TheVariants.{NoSession, Memory}

-- what the store keeps, and the sessions by their numbers
pub record Core : Type 0 where
  pub store : StoreState
  pub sessions : List (ℕ × Session)

-- the session of a number
abbrev pub session_of : List (ℕ × Session) → ℕ → Option Session
session_of sessions id = lookup (is_at (nat_cmp id)) sessions

-- there is a session, and it is not closed
abbrev pub is_open : Option Session → Bool
is_open None = false
is_open (Some s) = not (is_closed s.standing)

-- how many bytes of an unfinished frame a session keeps; none if there is no session
abbrev pub unfinished_in : Option Session → ℕ
unfinished_in None = 0
unfinished_in (Some s) = unfinished_size s.unfinished

-- the next frame of a session's stream is a publication that is made unless memory is refused; none
-- if there is no session
abbrev pub WouldPublishIn : Option Session → List ℕ → StoreState → Type 0
WouldPublishIn None piece store = ⊥
WouldPublishIn (Some s) piece store = WouldPublish s piece store

-- A piece of the stream of this number's session makes its next frame a publication, which is made
-- unless memory is refused.
abbrev pub PublishesNext : Core → ℕ → List ℕ → Type 0
PublishesNext core id piece = WouldPublishIn (session_of core.sessions id) piece core.store

-- The next frame of a session's stream, which a piece completes, is a query that is answered in a
-- scheme, if there is a session.
abbrev pub WouldAnswerIn : Option Session → List ℕ → StoreState → Scheme → Type 0
WouldAnswerIn None piece store scheme = ⊥
WouldAnswerIn (Some s) piece store scheme = WouldAnswer s piece store scheme

-- A piece of the stream of this number's session may be put off: its next frame is a query that is
-- answered, or a publication that is made, unless memory is refused.
abbrev pub MayWait : Core → ℕ → List ℕ → Type 0
MayWait core id piece =
    ((scheme : Scheme) × WouldAnswerIn (session_of core.sessions id) piece core.store scheme) ⊎ PublishesNext core id piece

-- what feeding a piece would do first; nothing that takes long if there is no session
abbrev pub IsComingIn : Coming → Option Session → List ℕ → StoreState → Type 0
IsComingIn coming None piece store = coming ≡ Short
IsComingIn coming (Some s) piece store = IsComing coming s piece store

-- memory was refused to the reading of the first frame of a session's piece
abbrev pub IsFirstUnreadBy : Setting → Option Session → List ℕ → Option Session → Type 0
IsFirstUnreadBy x None piece new = ⊥
IsFirstUnreadBy x (Some old) piece None = ⊥
IsFirstUnreadBy x (Some old) piece (Some new) = IsFirstUnread x old.unfinished piece new.unfinished

-- What a piece did, as the answer says: all of it was served, or memory was refused. Without a
-- session nothing is served.
abbrev pub FeedsCore : Setting → History → Session → List ℕ → Result (Unit {0}) FeedError → StoreState → Session → List ℕ → List ℕ → Type 0
FeedsCore x h old piece (Ok done) store new before after = FeedsStore x h old piece (Ok done) store new before after
FeedsCore x h old piece (Err Memory) store new before after = (e : AllocError) × FeedsStore x h old piece (Err e) store new before after
FeedsCore x h old piece (Err NoSession) store new before after = ⊥

-- What the first frame of a piece does, of which so many bytes were used up.
abbrev pub FeedsCoreFirst : Setting → History → Session → List ℕ → Result ℕ FeedError → StoreState → Session → List ℕ → List ℕ → Type 0
FeedsCoreFirst x h old piece (Ok count) store new before after = FeedsStoreFirst x h old piece (Ok count) store new before after
FeedsCoreFirst x h old piece (Err Memory) store new before after = (e : AllocError) × FeedsStoreFirst x h old piece (Err e) store new before after
FeedsCoreFirst x h old piece (Err NoSession) store new before after = ⊥

-- P, if the answer is that there is no session
abbrev pub OnNoSession : {T : Type 0} → Result T FeedError → Type 0 → Type 0
OnNoSession (Ok done) P = Unit {0}
OnNoSession (Err NoSession) P = P
OnNoSession (Err Memory) P = Unit {0}

-- if memory was refused
abbrev pub OnMemory : {T : Type 0} → Result T FeedError → Type 0 → Type 0
OnMemory (Ok done) P = Unit {0}
OnMemory (Err NoSession) P = Unit {0}
OnMemory (Err Memory) P = P
