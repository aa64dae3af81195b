-- What connections do to a server, as one run over one history.
use Rattle.std.proofs.Common.{◌≡◌, ◌≢◌, ◌≤◌, ◌-◌, ℕ, List, [], ◌∷◌, ◌++◌, length, take, drop, Option, Some, None, Result, Ok, Err, Bool, refl, sym, ap, subst, ◌∙◌, arith}
use Rattle.std.specs.Prelude.{not}
use Rattle.std.specs.List.{FoldsTo, flat_map}
use Rattle.std.specs.declared.alloc.AllocError.{AllocError}
use Rattle.std.proofs.lemmas.List.{length-drop, length-take-le, take-append-drop}
use Rattle.std.proofs.Math.Seq.{drop-append_seam}
use Rattle.frame_codec.specs.Frames.{encoding}
use Rattle.version_store.specs.Histories.{StoreState, History, StandsFor, undrafted}
use Rattle.version_store.proofs.HistoryLemmas.{undraft_stands}
use Rattle.server_core.specs.Cores.{Core, session_of}
use Rattle.server_core.specs.Serving.{Setting, setting_of, is_closed}
use Rattle.server_core.specs.Sessions.{Session, FeedsSession, FeedsStore}
use Rattle.server_core.specs.Laws.{FirstsArePieces}
use Rattle.connection_turns.specs.Connections.{ConnectionSeen, after_served_frame}
use Rattle.connection_turns.specs.Runs.{Deed, Opens, Serves, Stops, Closes, Undrafts, DoesToCore, FeedsConnection, Moment, ServesOn, RunStep, DeedsAreOneRun}
use Rattle.connection_turns.specs.Turns.{served_between, replied_between, ServedFramesAreMoves, ServedFramesAreDeeds}

there_is : (o : Option Session) → o ≢ None → (s : Session) × (o ≡ Some s)
there_is None n = absurd (n refl)
there_is (Some s) n = (s, refl)

-- what a deed at a moment leads to
Leads : Setting → Core → History → Deed → Core → Type 0
Leads x first h d mid = (h2 : History) × RunStep x (record { core = first; history = h }) d (record { core = mid; history = h2 })

serves_on : (x : Setting) (h : History) (id : ℕ) (piece : List ℕ) (result : Result (Unit {0}) AllocError) (reply : List ℕ) (first mid : Core)
    (s : Session) (is : session_of first.sessions id ≡ Some s) (t : Session) (there : session_of mid.sessions id ≡ Some t)
    (f : FeedsStore x h s piece result mid.store t [] reply)
    → ServesOn x (record { core = first; history = h }) id piece result reply (record { core = mid; history = f.history })
serves_on x h id piece result reply first mid s is t there f = record {
  old = s;
  old_is = is;
  new = t;
  new_is = there;
  replies = f.replies;
  served = f.course;
  reply_is = f.written;
  each = f.each;
}

run_one : (x : Setting) (first : Core) (h : History) (d : Deed) (mid : Core) → setting_of first.store ≡ x → StandsFor first.store h → DoesToCore first d mid →
    (h2 : History) × RunStep x (record { core = first; history = h }) d (record { core = mid; history = h2 })
run_one x first h (Opens id) mid set stands does = (
  h,
  record {
    setting_is = ap setting_of does.2 ∙ set;
    store_is = subst (λ (y : StoreState). StandsFor y h) (sym does.2) stands;
    core_does = does;
    history_does = refl;
  },
)
run_one x first h (Serves id piece reply) mid set stands does =
    let o = there_is (session_of first.sessions id) does.0 in
    let fed = does.1 h stands o.0 o.1 in
    let f : FeedsStore x h o.0 piece (Ok tt) mid.store fed.0 [] reply =
    subst (λ (y : Setting). FeedsStore y h o.0 piece (Ok tt) mid.store fed.0 [] reply) set fed.2 in (
      f.history,
      record {
        setting_is = f.setting_is;
        store_is = f.store_is;
        core_does = does;
        history_does = serves_on x h id piece (Ok tt) reply first mid o.0 o.1 fed.0 fed.1 f;
      },
    )
run_one x first h (Stops id piece) mid set stands does =
    let o = there_is (session_of first.sessions id) does.0 in
    let e = does.1.0 in
    let fed = does.1.1 h stands o.0 o.1 in
    let f : FeedsStore x h o.0 piece (Err e) mid.store fed.0 [] [] = subst (λ (y : Setting). FeedsStore y h o.0 piece (Err e) mid.store fed.0 [] []) set fed.2 in (
      f.history,
      record {
        setting_is = f.setting_is;
        store_is = f.store_is;
        core_does = does;
        history_does = (e, serves_on x h id piece (Err e) [] first mid o.0 o.1 fed.0 fed.1 f);
      },
    )
run_one x first h (Closes id) mid set stands does = (
  h,
  record {
    setting_is = ap setting_of does.1 ∙ set;
    store_is = subst (λ (y : StoreState). StandsFor y h) (sym does.1) stands;
    core_does = does;
    history_does = refl;
  },
)
run_one x first h Undrafts mid set stands does = (
  undrafted h,
  record {
    setting_is = ap setting_of does.1 ∙ set;
    store_is = undraft_stands first.store mid.store does.1 h stands;
    core_does = does;
    history_does = refl;
  },
)

run_from : (x : Setting) (deeds : List Deed) (first last : Core) (h : History) → setting_of first.store ≡ x → StandsFor first.store h →
    FoldsTo DoesToCore first deeds last
    → (end : History) × FoldsTo (RunStep x) (record { core = first; history = h }) deeds (record { core = last; history = end })
run_from x [] first last h set stands e = (h, ap (λ (c : Core). let m : Moment = record { core = c; history = h } in m) e)
run_from x (d ∷ deeds) first last h set stands (mid, does, rest) =
    let a = run_one x first h d mid set stands does in
    let b = run_from x deeds mid last a.0 a.1.setting_is a.1.store_is rest in
    (b.0, (record { core = mid; history = a.0 }, a.1, b.1))

pub deeds_are_one_run : DeedsAreOneRun
deeds_are_one_run deeds first last h stands f = run_from (setting_of first.store) deeds first last h refl stands f

-- ---- a frame that was served

-- how many bytes were used up
used : (old new : ConnectionSeen) (count : ℕ) → count ≤ length old.unserved → new.unserved ≡ drop count old.unserved →
    length old.unserved - length new.unserved ≡ count
used old new count le e = omega (arith, le, ap length e ∙ length-drop count old.unserved)

replied : (old new : ConnectionSeen) (reply : List ℕ) → new.owed ≡ old.owed ++ reply → replied_between old new ≡ reply
replied old new reply e = ap (drop (length old.owed)) e ∙ drop-append_seam old.owed reply

pub served_frames_are_deeds : FirstsArePieces → ServedFramesAreDeeds
served_frames_are_deeds pieces before after id now old new there at others = (there, feeds, others)
  where
    feeds : FeedsConnection id before (served_between old new) (Ok tt) (replied_between old new) after
    feeds h stands s is =
        let n = at h stands s is in
        let x : Setting = setting_of before.store in
        let count_is = used old new n.count n.within (ap (λ (y : ConnectionSeen). y.unserved) n.new_is) in
        let reply_is = replied old new (flat_map encoding n.replies) (ap (λ (y : ConnectionSeen). y.owed) n.new_is) in
        let course : FeedsSession x h s (take n.count old.unserved) (Ok tt) n.history n.session n.replies =
        pieces x h s old.unserved n.count n.history n.session n.replies n.served in (
          n.session,
          n.session_is,
          record {
            history = n.history;
            replies = n.replies;
            setting_is = n.setting_is;
            store_is = n.store_is;
            course = subst (λ (k : ℕ). FeedsSession x h s (take k old.unserved) (Ok tt) n.history n.session n.replies) (sym count_is) course;
            written = reply_is;
            each = n.each;
          },
        )

pub served_frames_are_moves : ServedFramesAreMoves
served_frames_are_moves x h s id now old new after n =
    let unserved_is = ap (λ (y : ConnectionSeen). y.unserved) n.new_is in
    let count_is = used old new n.count n.within unserved_is in
    let reply_is = replied old new (flat_map encoding n.replies) (ap (λ (y : ConnectionSeen). y.owed) n.new_is) in
    let live_is : new.live ≡ not (is_closed n.session.standing) = ap (λ (y : ConnectionSeen). y.live) n.new_is in
    let reply : List ℕ = flat_map encoding n.replies in
    let live : Bool = not (is_closed n.session.standing) in
    let served : List ℕ = served_between old new in
    let served_is : served ≡ take n.count old.unserved = ap (λ (k : ℕ). take k old.unserved) count_is in
    let size : length served ≡ n.count = ap length served_is ∙ length-take-le n.count old.unserved n.within in (
      sym (ap (λ (y : List ℕ). y ++ new.unserved) served_is ∙ ap (λ (y : List ℕ). take n.count old.unserved ++ y) unserved_is
          ∙ take-append-drop n.count old.unserved),
      n.new_is ∙ ap (λ (k : ℕ). after_served_frame k reply live now old) (sym size)
          ∙ ap (λ (r : List ℕ). after_served_frame (length served) r live now old) (sym reply_is)
          ∙ ap (λ (b : Bool). after_served_frame (length served) (replied_between old new) b now old) (sym live_is),
    )
