-- What a client does is happenings.
use Rattle.std.proofs.Common.{◌≡◌, ◌≢◌, ◌⊎◌, ℕ, Bool, true, false, cond, List, [], ◌∷◌, ◌++◌, Option, Some, None, refl, sym, ap, subst, ◌∙◌, inl, inr}
use Rattle.std.specs.Prelude.{map, is_some, MatchBool, Result, Ok, Err}
use Rattle.std.specs.List.{flat_map, AllByRecursion}
use Rattle.std.proofs.lemmas.List.{append-nil, append_assoc}
use Rattle.frame_codec.specs.declared.frame.Frame.{Frame}
use Rattle.frame_codec.specs.declared.reader.ReadFault.{ReadFault}
use Rattle.frame_codec.specs.declared.reader.ReadFault.TheVariants.{TooLong, UnknownKind, BadPayload, Memory as NoMemory, Failed as Stopped}
use Rattle.frame_codec.specs.Frames.{encoding}
use Rattle.frame_codec.proofs.Runs.{all_append}
use Rattle.client_core.specs.declared.state.ClientState.{ClientState}
use Rattle.client_core.specs.declared.state.CallFault.{CallFault}
use Rattle.client_core.specs.declared.state.ClientFault.{ClientFault}
use Rattle.client_core.specs.declared.state.ClientFault.TheVariants.{BadReply, Memory}
use Rattle.client_core.specs.declared.state.Event.{Event}
use Rattle.client_core.specs.Calls.{ClientCall, call_frame, Accepts, Refuses}
use Rattle.client_core.specs.Replies.{reaction_to_reply}
use Rattle.client_core.specs.Feeding.{Client, Course, start, course_after_reply, course_more, runs, takes_all, sends_of, events_of, fault_of, failing, ends_with, Follows, BreaksOff, FeedsClient, FeedsOpen, FeedsFailed}
use Rattle.client_core.specs.Laws.{Happening, Accepted, TurnedDown, Lacking, Replied as Reply, Failing, after}
use Rattle.client_core.specs.Shapes.{frames_at, frames, after_all, events_at, reported_events, taken_of, failure_at, happenings_of, IsReplyOrFailure, Happened, NothingHappened, ClientsHappen}
use Rattle.client_core.proofs.Courses.{fault_stays}

-- ---- more happenings

frames_append : (c : ClientState) (hs gs : List Happening) → frames c (hs ++ gs) ≡ frames c hs ++ frames (after_all c hs) gs
frames_append c [] gs = refl
frames_append c (h ∷ hs) gs =
    ap (λ (x : List Frame). frames_at c h ++ x) (frames_append (after c h) hs gs)
    ∙ sym (append_assoc (frames_at c h) (frames (after c h) hs) (frames (after_all (after c h) hs) gs))

after_append : (c : ClientState) (hs gs : List Happening) → after_all c (hs ++ gs) ≡ after_all (after_all c hs) gs
after_append c [] gs = refl
after_append c (h ∷ hs) gs = after_append (after c h) hs gs

events_append : (c : ClientState) (hs gs : List Happening) → reported_events c (hs ++ gs) ≡ reported_events c hs ++ reported_events (after_all c hs) gs
events_append c [] gs = refl
events_append c (h ∷ hs) gs =
    ap (λ (x : List Event). events_at c h ++ x) (events_append (after c h) hs gs)
    ∙ sym (append_assoc (events_at c h) (reported_events (after c h) hs) (reported_events (after_all (after c h) hs) gs))

-- ---- replies one after another

-- a course went through these happenings; all of its replies, where none was bad
record Went (k end : Course) (fs : List Frame) (hs : List Happening) : Type 0 where
  fed : AllByRecursion IsReplyOrFailure hs
  sends : end.sends ≡ k.sends ++ frames k.state hs
  events : end.events ≡ k.events ++ reported_events k.state hs
  state : end.state ≡ after_all k.state hs
  all : end.fault ≡ None → hs ≡ map Reply fs

no_fault : (k end : Course) (x : ClientFault) → end ≡ k → k.fault ≡ Some x → end.fault ≡ None → (P : Type 0) → P
no_fault k end x same is none P = absurd (let e : Some x ≡ None = sym is ∙ ap (λ (y : Course). y.fault) (sym same) ∙ none in cc)

-- what happens at a reply and those after it, by whether the client fails at it
abbrev and_more : ClientState → Frame → List Frame → Bool → List Happening
and_more c f fs fails = Reply f ∷ cond fails [] (taken_of (reaction_to_reply c f).state fs)

next_reply : (k : Course) (f : Frame) (fs : List Frame) (o : Option ClientFault) → fault_of (reaction_to_reply k.state f).reaction ≡ o
    → ((j : Course) → j.fault ≡ None → Went j (runs j fs) fs (taken_of j.state fs))
    → Went k (runs (course_after_reply k (reaction_to_reply k.state f)) fs) (f ∷ fs) (and_more k.state f fs (is_some o))
next_reply k f fs (Some x) is again =
    let t = reaction_to_reply k.state f in
    let same : runs (course_after_reply k t) fs ≡ course_after_reply k t = fault_stays (course_after_reply k t) fs x is in
    record {
      fed = (tt, tt);
      sends = ap (λ (y : Course). y.sends) same ∙ ap (λ (y : List Frame). k.sends ++ y) (sym (append-nil (sends_of t.reaction)));
      events = ap (λ (y : Course). y.events) same ∙ ap (λ (y : List Event). k.events ++ y) (sym (append-nil (events_of t.reaction)));
      state = ap (λ (y : Course). y.state) same;
      all = λ none. no_fault (course_after_reply k t) (runs (course_after_reply k t) fs) x same is none (Reply f ∷ [] ≡ map Reply (f ∷ fs));
    }
next_reply k f fs None is again =
    let t = reaction_to_reply k.state f in
    let w = again (course_after_reply k t) is in
    let hs = taken_of t.state fs in
    record {
      fed = (tt, w.fed);
      sends = w.sends ∙ append_assoc k.sends (sends_of t.reaction) (frames t.state hs);
      events = w.events ∙ append_assoc k.events (events_of t.reaction) (reported_events t.state hs);
      state = w.state;
      all = λ none. ap (λ (y : List Happening). Reply f ∷ y) (w.all none);
    }

taken_next : (k : Course) (f : Frame) → k.fault ≡ None → course_more k f ≡ course_after_reply k (reaction_to_reply k.state f)
taken_next k f none = rw none refl

went : (fs : List Frame) (k : Course) → k.fault ≡ None → Went k (runs k fs) fs (taken_of k.state fs)
went [] k none = record { fed = tt; sends = sym (append-nil k.sends); events = sym (append-nil k.events); state = refl; all = λ _. refl }
went (f ∷ fs) k none =
    rw (taken_next k f none)
    (next_reply k f fs (fault_of (reaction_to_reply k.state f).reaction) refl (λ j e. went fs j e))

replies_happen : (c : ClientState) (fs : List Frame) → (takes_all c fs).fault ≡ None → ((takes_all c fs).sends ≡ frames c (map Reply fs))
    × ((takes_all c fs).events ≡ reported_events c (map Reply fs))
    × ((takes_all c fs).state ≡ after_all c (map Reply fs))
replies_happen c fs none =
    let w : Went (start c) (takes_all c fs) fs (taken_of c fs) = went fs (start c) refl in
    let all = w.all none in (
      w.sends ∙ ap (λ (y : List Happening). frames c y) all,
      w.events ∙ ap (λ (y : List Happening). reported_events c y) all,
      w.state ∙ ap (λ (y : List Happening). after_all c y) all,
    )

-- ---- a piece

-- what a course of happenings gave
record Gone (c : ClientState) (end : Course) (hs : List Happening) : Type 0 where
  fed : AllByRecursion IsReplyOrFailure hs
  sends : end.sends ≡ frames c hs
  events : end.events ≡ reported_events c hs
  state : end.state ≡ after_all c hs

module _ (c : ClientState) (k : Course) (hs : List Happening) (g : Gone c k hs) where
  fails_after : (f : ClientFault) → Gone c (record k { state = record k.state { failed = true }; fault = Some f }) (hs ++ Failing ∷ [])
  fails_after f = record {
    fed = all_append IsReplyOrFailure hs (Failing ∷ []) g.fed (tt, tt);
    sends = g.sends ∙ sym (frames_append c hs (Failing ∷ []) ∙ append-nil (frames c hs));
    events = g.events ∙ sym (events_append c hs (Failing ∷ []) ∙ append-nil (reported_events c hs));
    state = ap (λ (y : ClientState). record y { failed = true }) g.state ∙ sym (after_append c hs (Failing ∷ []));
  }

  nothing_more : (b : Bool) → Gone c k (hs ++ cond b [] [])
  nothing_more true = rw append-nil g
  nothing_more false = rw append-nil g

  fails_or_not : (f : ClientFault) → Gone c (failing k (Some f)) (hs ++ cond (is_some k.fault) [] (Failing ∷ []))
  fails_or_not f = by (is_some k.fault)
    where
      by : (b : Bool) → Gone c (cond b k (record k { state = record k.state { failed = true }; fault = Some f })) (hs ++ cond b [] (Failing ∷ []))
      by true = rw append-nil g
      by false = fails_after f

  -- and then the codec's answer
  gone_on : (answer : Result (Unit {0}) ReadFault) → Gone c (ends_with k answer) (hs ++ cond (is_some k.fault) [] (failure_at answer))
  gone_on (Ok done) = nothing_more (is_some k.fault)
  gone_on (Err TooLong) = fails_or_not BadReply
  gone_on (Err UnknownKind) = fails_or_not BadReply
  gone_on (Err BadPayload) = fails_or_not BadReply
  gone_on (Err NoMemory) = fails_or_not Memory
  gone_on (Err Stopped) = fails_or_not BadReply

piece_happened : (old new : Client) (piece out : List ℕ) (events : List Event) (fault : Option ClientFault) → FeedsClient old piece out events fault new →
    old.state.failed ≡ false → fault ≢ Some Memory → Happened old piece out events new
piece_happened old new piece out events fault f alive memory =
    by (subst (λ (b : Bool). MatchBool b (FeedsFailed old out events fault new) (FeedsOpen old piece out events fault new)) alive f)
  where
    by : FeedsOpen old piece out events fault new → Happened old piece out events new
    by o = of o.takes
      where
        of : (Follows (ends_with (takes_all old.state o.frames) o.answer) out events fault new.state ⊎ BreaksOff old.state o.frames out events fault new.state) →
            Happened old piece out events new
        of (inl w) =
            let q : Went (start old.state) (takes_all old.state o.frames) o.frames (taken_of old.state o.frames) = went o.frames (start old.state) refl in
            let g = gone_on old.state (takes_all old.state o.frames) (taken_of old.state o.frames)
            (record { fed = q.fed; sends = q.sends; events = q.events; state = q.state }) o.answer in
            record {
              answer = o.answer;
              replies = o.frames;
              reads = o.reads;
              happenings = happenings_of old.state o.frames o.answer;
              happenings_are = refl;
              fed = g.fed;
              written = w.gives.written ∙ ap (λ (y : List Frame). flat_map encoding y) g.sends;
              reported = w.gives.reported ∙ g.events;
              state = w.state ∙ g.state;
            }
        of (inr b) = absurd (memory b.fault_is)

failed_stays : (old new : Client) (piece out : List ℕ) (events : List Event) (fault : Option ClientFault) → FeedsClient old piece out events fault new →
    old.state.failed ≡ true → NothingHappened old out events new
failed_stays old new piece out events fault f failed =
    by (subst (λ (b : Bool). MatchBool b (FeedsFailed old out events fault new) (FeedsOpen old piece out events fault new)) failed f)
  where
    by : FeedsFailed old out events fault new → NothingHappened old out events new
    by g = record { written = g.none; reported = g.silent; same = g.same }

-- ---- calls

call_happened : (old new : ClientState) (want : ClientCall) (bytes : List ℕ) → Accepts old want new bytes →
    (bytes ≡ flat_map encoding (frames_at old (Accepted want))) × (new ≡ after old (Accepted want))
call_happened old new want bytes a = (
  a.written ∙ sym (append-nil (encoding (call_frame want old))),
  a.state,
)

refusal_happened : (old new : ClientState) (want : ClientCall) (fault : CallFault) → Refuses old want fault new → (new ≡ after old (TurnedDown want))
    ⊎ (new ≡ after old (Lacking want))
refusal_happened old new want fault (inl a) = inl a.1
refusal_happened old new want fault (inr a) = inr a.2

pub clients_happen : ClientsHappen
clients_happen = record { accepted = call_happened; refused = refusal_happened; fed = piece_happened; failed = failed_stays; replies = replies_happen }
