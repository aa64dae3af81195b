-- A piece, frame by frame.
use Rattle.std.proofs.Common.{◌≡◌, ◌≤◌, ◌<◌, ◌⊎◌, not, ℕ, Bool, true, false, List, [], ◌∷◌, ◌++◌, length, take, drop, Option, Some, Result, Ok, Err, refl, sym, ap, subst, ◌∙◌, append_assoc, arith, inl, inr}
use Rattle.std.specs.Prelude.{◌==◌}
use Rattle.std.specs.List.{flat_map}
use Rattle.std.specs.declared.alloc.AllocError.{AllocError}
use Rattle.std.proofs.lemmas.Bool.{eqb-true}
use Rattle.std.proofs.lemmas.List.{length-append, length-take-le, take-append-drop}
use Rattle.connection_io.specs.Calls.{IoCall, Sends}
use Rattle.connection_io.proofs.Parts.{sends_both, sends_faulty}
use Rattle.frame_codec.specs.Frames.{encoding}
use Rattle.version_store.specs.Histories.{StoreState, History, StandsFor}
use Rattle.server_core.specs.Cores.{Core, session_of, is_open, FeedsCoreFirst}
use Rattle.server_core.specs.declared.server.FeedError.{FeedError}
use Rattle.server_core.specs.declared.server.FeedError.TheVariants as feed_error
use Rattle.server_core.specs.Serving.{Setting, setting_of, is_closed}
use Rattle.server_core.specs.Sessions.{Session, FeedsStore, FeedsStoreFirst}
use Rattle.server_core.proofs.Firsts.{firsts_are_pieces, stops_are_pieces}
use Rattle.blocking_io.specs.declared.serving.ServeFault.{ServeFault}
use Rattle.blocking_io.specs.declared.serving.ServeFault.TheVariants as fault
use Rattle.blocking_io.specs.ServingTurns.{WritesReplies}
use Rattle.blocking_io.specs.Serving.{FedPart, ServesStreamPiece, ServesFirst, ServesFrameThere}
use Rattle.blocking_io.proofs.Sessions.{fed_both, fed_parts}
use Rattle.blocking_io.proofs.Streams.{cut_after}

-- ---- one frame

pub first_fed : (x : Setting) (h : History) (old : Session) (piece : List ℕ) (count : ℕ) (store : StoreState) (new : Session) (before after : List ℕ) →
    before ≡ [] → FeedsStoreFirst x h old piece (Ok count) store new before after → FeedsStore x h old (take count piece) (Ok tt) store new [] after
first_fed x h old piece count store new before after none f = record {
  history = f.history;
  replies = f.replies;
  setting_is = f.setting_is;
  store_is = f.store_is;
  course = firsts_are_pieces x h old piece count f.history new f.replies f.course;
  written = subst (λ (y : List ℕ). after ≡ y ++ flat_map encoding f.replies) none f.written;
  each = f.each;
}

first_stopped : (x : Setting) (h : History) (old : Session) (piece : List ℕ) (e : AllocError) (store : StoreState) (new : Session) (before after : List ℕ) →
    before ≡ [] → FeedsStoreFirst x h old piece (Err e) store new before after → FedPart x h old piece (Err e) store new after
first_stopped x h old piece e store new before after none f =
    let p = stops_are_pieces x h old piece e f.history new f.replies f.course in
    record {
      part = take p.0 piece;
      rest = drop p.0 piece;
      whole = sym (take-append-drop p.0 piece);
      fed = record {
        history = f.history;
        replies = f.replies;
        setting_is = f.setting_is;
        store_is = f.store_is;
        course = p.2;
        written = subst (λ (y : List ℕ). after ≡ y ++ flat_map encoding f.replies) none f.written;
        each = f.each;
      };
    }

-- whatever was answered
pub first_any : (x : Setting) (h : History) (old : Session) (piece : List ℕ) (answer : Result ℕ FeedError) (store : StoreState) (new : Session)
    (before after : List ℕ) → before ≡ [] → FeedsCoreFirst x h old piece answer store new before after
    → (r : Result (Unit {0}) AllocError) × FedPart x h old piece r store new after
first_any x h old piece (Ok count) store new before after none f = (
  Ok tt,
  record {
    part = take count piece;
    rest = drop count piece;
    whole = sym (take-append-drop count piece);
    fed = first_fed x h old piece count store new before after none f;
  },
)
first_any x h old piece (Err feed_error.NoSession) store new before after none f = absurd f
first_any x h old piece (Err feed_error.Memory) store new before after none f = (Err f.0, first_stopped x h old piece f.0 store new before after none f.1)

pub first_short : (x : Setting) (h : History) (old : Session) (piece : List ℕ) (answer : Result ℕ FeedError) (e : FeedError) (store : StoreState)
    (new : Session) (before after : List ℕ) → answer ≡ Err e → before ≡ [] → FeedsCoreFirst x h old piece answer store new before after
    → (r : AllocError) × FedPart x h old piece (Err r) store new after
first_short x h old piece answer e store new before after is none f =
    by_fault e (subst (λ (r : Result ℕ FeedError). FeedsCoreFirst x h old piece r store new before after) is f)
  where
    by_fault : (e : FeedError) → FeedsCoreFirst x h old piece (Err e) store new before after → (r : AllocError) × FedPart x h old piece (Err r) store new after
    by_fault feed_error.NoSession f = absurd f
    by_fault feed_error.Memory f = (f.0, first_stopped x h old piece f.0 store new before after none f.1)

-- ---- the frames before

-- so many bytes were served, and these written: none yet, or as one piece
abbrev pub Reached : Setting → History → Session → ℕ → Core → List ℕ → List ℕ → Core → Type 0
Reached x h old id first part bytes core = ((part ≡ []) × (bytes ≡ []) × (core ≡ first))
    ⊎ ((s : Session) × (session_of core.sessions id ≡ Some s) × FeedsStore x h old part (Ok tt) core.store s [] bytes)

-- the same for each history and the session of this number
abbrev pub ReachedThere : ℕ → Core → List ℕ → List ℕ → Core → Type 0
ReachedThere id first part bytes core = (h : History) → StandsFor first.store h → (old : Session) → session_of first.sessions id ≡ Some old →
    Reached (setting_of first.store) h old id first part bytes core

opened_is : (found : Option Session) (s : Session) → found ≡ Some s → is_open found ≡ true → is_closed s.standing ≡ false
opened_is found s e o = by_state (is_closed s.standing) (ap is_open (sym e) ∙ o)
  where
    by_state : (b : Bool) → not b ≡ true → b ≡ false
    by_state true n = let no : false ≡ true = n in absurd cc
    by_state false n = refl

module _ (id : ℕ) (first core next : Core) (part bytes rest more : List ℕ) (open_ : is_open (session_of first.sessions id) ≡ true)
    (still : is_open (session_of core.sessions id) ≡ true) (reached : ReachedThere id first part bytes core) where
  -- one more frame was served
  pub reached_more : (count : ℕ) → ServesFrameThere core id rest (Ok count) next more → ReachedThere id first (part ++ take count rest) (bytes ++ more) next
  reached_more count step h stands old is = by_state (reached h stands old is)
    where
      by_state : Reached (setting_of first.store) h old id first part bytes core →
          Reached (setting_of first.store) h old id first (part ++ take count rest) (bytes ++ more) next
      by_state (inl n) =
          let same : (h1 : History) → StandsFor first.store h1 → (o : Session) → session_of first.sessions id ≡ Some o →
          ServesFirst (setting_of first.store) h1 o rest (Ok count) next.store (session_of next.sessions id) more =
          subst (λ (c : Core). ServesFrameThere c id rest (Ok count) next more) n.2 step in
          let t = same h stands old is in
          rw (n.0, n.1) (inr t)
      by_state (inr f) =
          let t = step f.2.history f.2.store_is f.0 f.1 in
          inr (
            t.0,
            t.1,
            fed_both (setting_of first.store) h old part (take count rest) bytes more (Ok tt) core.store next.store f.0 t.0
                (opened_is (session_of first.sessions id) old is open_) f.2 (opened_is (session_of core.sessions id) f.0 f.1 still) t.2,
          )

  -- a write failed, or memory was refused, at the next one
  pub reached_fault : (e : ServeFault) → ServesFrameThere core id rest (Err e) next more → (h : History) → StandsFor first.store h → (old : Session) →
      session_of first.sessions id ≡ Some old
      → ServesStreamPiece (setting_of first.store) h old (part ++ rest) (Err e) next.store (session_of next.sessions id) (bytes ++ more)
  reached_fault e step h stands old is = by_state (reached h stands old is)
    where
      after_none : (e : ServeFault) → ServesFirst (setting_of first.store) h old rest (Err e) next.store (session_of next.sessions id) more →
          ServesStreamPiece (setting_of first.store) h old rest (Err e) next.store (session_of next.sessions id) more
      after_none fault.IdInUse t = absurd t
      after_none fault.Read t = absurd t
      after_none fault.Write t = t
      after_none fault.Memory t = t
      after_none fault.TurnsUsedUp t = absurd t

      after_some : (e : ServeFault) (s : Session) (there : session_of core.sessions id ≡ Some s) (f : FeedsStore (setting_of first.store) h old part (Ok tt) core.store s [] bytes) →
          ServesFirst (setting_of core.store) f.history s rest (Err e) next.store (session_of next.sessions id) more →
          ServesStreamPiece (setting_of first.store) h old (part ++ rest) (Err e) next.store (session_of next.sessions id) (bytes ++ more)
      after_some fault.IdInUse s there f t = absurd t
      after_some fault.Read s there f t = absurd t
      after_some fault.Write s there f t = (
        t.0,
        t.1,
        bytes ++ t.2,
        fed_parts (setting_of first.store) h old part rest bytes t.2 t.1 core.store next.store s t.0
            (opened_is (session_of first.sessions id) old is open_) f (opened_is (session_of core.sessions id) s there still) t.3,
        cut_after bytes more t.2 t.4,
      )
      after_some fault.Memory s there f t = (
        t.0,
        t.1,
        fed_parts (setting_of first.store) h old part rest bytes more (Err t.1) core.store next.store s t.0
            (opened_is (session_of first.sessions id) old is open_) f (opened_is (session_of core.sessions id) s there still) t.2,
      )
      after_some fault.TurnsUsedUp s there f t = absurd t

      by_state : Reached (setting_of first.store) h old id first part bytes core →
          ServesStreamPiece (setting_of first.store) h old (part ++ rest) (Err e) next.store (session_of next.sessions id) (bytes ++ more)
      by_state (inl n) =
          let same : (h1 : History) → StandsFor first.store h1 → (o : Session) → session_of first.sessions id ≡ Some o →
          ServesFirst (setting_of first.store) h1 o rest (Err e) next.store (session_of next.sessions id) more =
          subst (λ (c : Core). ServesFrameThere c id rest (Err e) next more) n.2 step in
          subst (λ (p : List ℕ). ServesStreamPiece (setting_of first.store) h old (p ++ rest) (Err e) next.store (session_of next.sessions id) (bytes ++ more))
          (sym n.0)
          (subst (λ (b : List ℕ). ServesStreamPiece (setting_of first.store) h old rest (Err e) next.store (session_of next.sessions id) (b ++ more))
          (sym n.1) (after_none e (same h stands old is)))
      by_state (inr f) = after_some e f.0 f.1 f.2 (step f.2.history f.2.store_is f.0 f.1)

-- nothing yet
pub reached_none : (id : ℕ) (first : Core) → ReachedThere id first [] [] first
reached_none id first h stands old is = inl (refl, refl, refl)

-- all of a piece, or all up to the frame that closed the session
pub reached_end : (id : ℕ) (first core : Core) (part rest bytes piece : List ℕ) → ReachedThere id first part bytes core → piece ≡ part ++ rest →
    (part ≡ [] → ⊥) → ((s : Session) → session_of core.sessions id ≡ Some s → is_closed s.standing ≡ false → rest ≡ []) → (h : History) →
    StandsFor first.store h → (old : Session) → session_of first.sessions id ≡ Some old
    → ServesStreamPiece (setting_of first.store) h old piece (Ok tt) core.store (session_of core.sessions id) bytes
reached_end id first core part rest bytes piece reached whole some all h stands old is = by_state (reached h stands old is)
  where
    by_state : Reached (setting_of first.store) h old id first part bytes core →
        ServesStreamPiece (setting_of first.store) h old piece (Ok tt) core.store (session_of core.sessions id) bytes
    by_state (inl n) = absurd (some n.0)
    by_state (inr f) = (
      f.0,
      f.1,
      record { parts = record { part = part; rest = rest; whole = whole; fed = f.2 }; all = all f.0 f.1 },
    )

-- what went out before, and then this
pub writes_on : {C : Type 0} (does : C → IoCall → C → Type 0) (e : ServeFault) (a m b : C) (bytes more : List ℕ) → Sends does a bytes m →
    WritesReplies {T = ℕ} does (Err e) m more b → WritesReplies {T = Unit {0}} does (Err e) a (bytes ++ more) b
writes_on does fault.IdInUse a m b bytes more s w = sends_both does a m b bytes more s w
writes_on does fault.Read a m b bytes more s w = sends_both does a m b bytes more s w
writes_on does fault.Write a m b bytes more s w = sends_faulty does a m b bytes more s w
writes_on does fault.Memory a m b bytes more s w = sends_both does a m b bytes more s w
writes_on does fault.TurnsUsedUp a m b bytes more s w = sends_both does a m b bytes more s w

-- a frame more is not nothing
pub some_part : (part rest : List ℕ) (n : ℕ) → 0 < n → n ≤ length rest → part ++ take n rest ≡ [] → ⊥
some_part part rest n some le e =
    absurd (omega (arith, some, ap length e, length-append part (take n rest), length-take-le n rest le))

-- a closed session is not open
pub shut_is : (found : Option Session) (s : Session) → found ≡ Some s → is_open found ≡ false → is_closed s.standing ≡ false → ⊥
shut_is found s e shut open_ =
    let no : true ≡ false = ap not (sym open_) ∙ ap is_open (sym e) ∙ shut in
    cc

pub whole_on : (piece part rest beyond : List ℕ) (n : ℕ) → piece ≡ part ++ rest → beyond ≡ drop n rest → piece ≡ (part ++ take n rest) ++ beyond
whole_on piece part rest beyond n e d =
    e ∙ ap (λ (y : List ℕ). part ++ y) (sym (take-append-drop n rest)) ∙ sym (append_assoc part (take n rest) (drop n rest))
    ∙ ap (λ (y : List ℕ). (part ++ take n rest) ++ y) (sym d)

-- what a test for emptiness says
pub some_bytes : (xs : List ℕ) (b : Bool) → b ≡ (length xs == 0) → b ≡ false → 0 < length xs
some_bytes [] b e f = let no : true ≡ false = sym e ∙ f in absurd cc
some_bytes (x ∷ xs) b e f = omega arith

pub no_bytes : (xs : List ℕ) (b : Bool) → b ≡ (length xs == 0) → b ≡ true → xs ≡ []
no_bytes [] b e t = refl
no_bytes (x ∷ xs) b e t = absurd (omega (arith, eqb-true (length (x ∷ xs)) 0 (sym e ∙ t)))
