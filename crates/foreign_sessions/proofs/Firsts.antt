-- The first frame of a piece, as a piece of its own.
use Rattle.std.proofs.Common.{◌≡◌, ◌≢◌, ◌↔◌, ℕ, List, take, Some, None, Result, Ok, Err}
use Rattle.std.specs.Prelude.{length, IsErrOf}
use Rattle.version_store.specs.Histories.{StoreState, History, StandsFor}
use Rattle.server_core.specs.declared.server.FeedError.{FeedError}
use Rattle.server_core.specs.declared.server.FeedError.TheVariants as feed
use Rattle.server_core.specs.Cores.{session_of, FeedsCoreFirst}
use Rattle.server_core.specs.Serving.{Setting, setting_of}
use Rattle.server_core.specs.Sessions.{Session, FeedsStore, FeedsStoreFirst}
use Rattle.server_core.proofs.Firsts.{firsts_are_pieces}
use Rattle.foreign_sessions.specs.declared.server.ServerSession.{ServerSession}
use Rattle.foreign_sessions.specs.Servers.{ServesWholePiece}

fed_piece : (x : Setting) (h : History) (was : Session) (piece : List ℕ) (taken : ℕ) (store : StoreState) (is : Session) (before after : List ℕ) →
    FeedsStoreFirst x h was piece (Ok taken) store is before after → FeedsStore x h was (take taken piece) (Ok tt) store is before after
fed_piece x h was piece taken store is before after f = record {
  history = f.history;
  replies = f.replies;
  setting_is = f.setting_is;
  store_is = f.store_is;
  course = firsts_are_pieces x h was piece taken f.history is f.replies f.course;
  written = f.written;
  each = f.each;
}

-- what the first frame of a piece did to the sessions, if its bytes were taken, is what these bytes
-- do
pub as_piece : (old : ServerSession) (id : ℕ) (piece : List ℕ) (taken : ℕ) (new : ServerSession) → length old.replies.items ≡ 0
    → ((h : History) → StandsFor old.core.store h → (was : Session) → session_of old.core.sessions id ≡ Some was →
    (is : Session) × (session_of new.core.sessions id ≡ Some is)
    × FeedsCoreFirst (setting_of old.core.store) h was piece (Ok taken) new.core.store is old.replies.items new.replies.items)
    → (IsErrOf (Ok taken) feed.NoSession ↔ (session_of old.core.sessions id ≡ None))
    → ((other : ℕ) → other ≢ id → session_of new.core.sessions other ≡ session_of old.core.sessions other)
    → ServesWholePiece old id (take taken piece) (Ok tt) new
as_piece old id piece taken new silent fed no_session others = record {
  silent = silent;
  fed = λ h stands was e.
      let f = fed h stands was e in
      (f.0, f.1, fed_piece (setting_of old.core.store) h was piece taken new.core.store f.0 old.replies.items new.replies.items f.2);
  no_session = (λ bad. absurd (no_fault bad), λ none. absurd (taken_fault (no_session.1 none)));
  unchanged = tt;
  others = others;
}
  where
    no_fault : ◌≡◌ {A = Result (Unit {0}) FeedError} (Ok tt) (Err feed.NoSession) → ⊥
    no_fault bad = cc

    taken_fault : ◌≡◌ {A = Result ℕ FeedError} (Ok taken) (Err feed.NoSession) → ⊥
    taken_fault bad = cc
