-- A frame that a connection's session was fed.
use Rattle.std.proofs.Common.{◌≡◌, ◌≤◌, ◌-◌, ◌++◌, ℕ, List, length, drop, Some, Ok, Err, Bool, true, false, ap, subst, ◌∙◌, arith}
use Rattle.std.specs.Prelude.{cond, not}
use Rattle.std.specs.List.{flat_map}
use Rattle.std.proofs.lemmas.List.{length-append}
use Rattle.frame_codec.specs.declared.frame.Frame.{Frame}
use Rattle.frame_codec.specs.Frames.{encoding}
use Rattle.version_store.specs.Histories.{History}
use Rattle.server_core.specs.Cores.{Core, session_of, is_open, FeedsCoreFirst}
use Rattle.server_core.specs.declared.server.FeedError.{FeedError}
use Rattle.server_core.specs.declared.server.FeedError.TheVariants.{NoSession, Memory}
use Rattle.server_core.specs.Serving.{Setting, is_closed}
use Rattle.server_core.specs.Sessions.{Session, FeedsFirst, FeedsStoreFirst}
use Rattle.connection_turns.specs.Connections.{ConnectionSeen, is_progress, after_served_frame}
use Rattle.connection_turns.specs.Turns.{ServesNext, StopsNext}
use Rattle.connection_turns.specs.declared.connection_state.LastProgress.{LastProgress}

-- what was fed and how the code saw it
pub record Saw (old : ConnectionSeen) (after : Core) (id now : ℕ) (owed : List ℕ) (live : Bool) (last : LastProgress) (replied : ℕ) : Type 0 where
  pub live_is : live ≡ is_open (session_of after.sessions id)
  pub replied_is : replied ≡ length owed - length old.owed
  pub last_is : last ≡ cond (is_progress old.awaited replied live) (record { moment = now; awaited = length owed })
      (record { moment = old.progress; awaited = old.awaited })

-- the two parts of the last progress
parts : (b : Bool) (last : LastProgress) (now owed moment awaited : ℕ) → last ≡ cond b (record { moment = now; awaited = owed })
    (record { moment = moment; awaited = awaited }) → (last.moment ≡ cond b now moment) × (last.awaited ≡ cond b owed awaited)
parts true last now owed moment awaited e = (ap (λ (p : LastProgress). p.moment) e, ap (λ (p : LastProgress). p.awaited) e)
parts false last now owed moment awaited e = (ap (λ (p : LastProgress). p.moment) e, ap (λ (p : LastProgress). p.awaited) e)

pub serves_next : (x : Setting) (h : History) (s : Session) (id now : ℕ) (old : ConnectionSeen) (after : Core) (count : ℕ) (owed : List ℕ) (live : Bool)
    (last : LastProgress) (replied : ℕ) → count ≤ length old.unserved
    → (t : Session) × (session_of after.sessions id ≡ Some t) × FeedsStoreFirst x h s old.unserved (Ok count) after.store t old.owed owed
    → Saw old after id now owed live last replied
    → ServesNext x h s id now old
    (record { unserved = drop count old.unserved; owed = owed; live = live; ended = old.ended; progress = last.moment; awaited = last.awaited }) after
serves_next x h s id now old after count owed live last replied le fed saw =
    let t : Session = fed.0 in
    let f = fed.2 in
    let reply : List ℕ = flat_map encoding f.replies in
    let open_ : Bool = not (is_closed t.standing) in
    let owed_is : owed ≡ old.owed ++ reply = f.written in
    let live_is : live ≡ open_ = saw.live_is ∙ ap is_open fed.1 in
    let size : replied ≡ length reply = omega (arith, saw.replied_is, ap length owed_is, length-append old.owed reply) in
    let b : Bool = is_progress old.awaited (length reply) open_ in
    let flag : is_progress old.awaited replied live ≡ b =
    ap (λ (n : ℕ). is_progress old.awaited n live) size ∙ ap (is_progress old.awaited (length reply)) live_is in
    let both = parts b last now (length (old.owed ++ reply)) old.progress old.awaited
    (saw.last_is ∙ ap (λ (c : Bool). let p : LastProgress = cond c (record { moment = now; awaited = length owed })
    (record { moment = old.progress; awaited = old.awaited }) in p) flag
    ∙ ap (λ (ys : List ℕ). let p : LastProgress = cond b (record { moment = now; awaited = length ys })
    (record { moment = old.progress; awaited = old.awaited }) in p) owed_is) in
    let moment_is = both.0 in
    let awaited_is = both.1 in
    let new_is : record { unserved = drop count old.unserved; owed = owed; live = live; ended = old.ended; progress = last.moment; awaited = last.awaited }
    ≡ after_served_frame count reply open_ now old = cc in
    record {
      count = count;
      history = f.history;
      session = t;
      replies = f.replies;
      within = le;
      served = f.course;
      each = f.each;
      setting_is = f.setting_is;
      store_is = f.store_is;
      session_is = fed.1;
      new_is = new_is;
    }

pub stops_next : (x : Setting) (h : History) (s : Session) (id : ℕ) (old : ConnectionSeen) (after : Core) (e : FeedError) (owed : List ℕ)
    → (t : Session) × (session_of after.sessions id ≡ Some t) × FeedsCoreFirst x h s old.unserved (Err e) after.store t old.owed owed
    → owed ≡ old.owed
    → StopsNext x h s id old (record { unserved = old.unserved; owed = owed; live = old.live; ended = old.ended; progress = old.progress; awaited = old.awaited }) after
stops_next x h s id old after NoSession owed fed same = absurd fed.2
stops_next x h s id old after Memory owed fed same =
    let f = fed.2.1 in
    record {
      refused = fed.2.0;
      history = f.history;
      session = fed.0;
      served = subst (λ (y : List Frame). FeedsFirst x h s old.unserved (Err fed.2.0) f.history fed.0 y) f.course.1.none f.course;
      setting_is = f.setting_is;
      store_is = f.store_is;
      session_is = fed.1;
      new_is = ap (λ (y : List ℕ). let l : ConnectionSeen = record {
        unserved = old.unserved;
        owed = y;
        live = old.live;
        ended = old.ended;
        progress = old.progress;
        awaited = old.awaited;
      } in l) same;
    }

-- the same of what the code handed over, which is what was unserved and owed
pub stops_given : (x : Setting) (h : History) (s : Session) (id : ℕ) (old : ConnectionSeen) (after : Core) (e : FeedError) (piece before owed : List ℕ)
    → piece ≡ old.unserved → before ≡ old.owed
    → (t : Session) × (session_of after.sessions id ≡ Some t) × FeedsCoreFirst x h s piece (Err e) after.store t before owed
    → owed ≡ before
    → StopsNext x h s id old (record { unserved = old.unserved; owed = owed; live = old.live; ended = old.ended; progress = old.progress; awaited = old.awaited }) after
stops_given x h s id old after e piece before owed first second fed same =
    stops_next x h s id old after e owed (
      fed.0,
      fed.1,
      subst (λ (y : List ℕ). FeedsCoreFirst x h s old.unserved (Err e) after.store fed.0 y owed) second
          (subst (λ (y : List ℕ). FeedsCoreFirst x h s y (Err e) after.store fed.0 before owed) first fed.2),
    )
    (same ∙ second)
