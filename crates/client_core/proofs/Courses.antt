-- Replies one after another.
use Rattle.std.proofs.Common.{◌≡◌, ℕ, ◌+◌, ◌<◌, List, [], ◌∷◌, ◌++◌, length, take, drop, get_or, Option, Some, None, refl, sym, ap, subst, ◌∙◌}
use Rattle.std.specs.List.{flat_map, AllByRecursion}
use Rattle.std.proofs.lemmas.List.{take_more, take-append-drop}
use Rattle.std.proofs.lemmas.List.Concat.{flat_map-append}
use Rattle.frame_codec.specs.declared.frame.Frame.{Frame}
use Rattle.frame_codec.specs.Frames.{IsFrame, encoding}
use Rattle.frame_codec.proofs.Runs.{all_append}
use Rattle.client_core.specs.declared.state.ClientState.{ClientState}
use Rattle.client_core.specs.declared.state.ClientFault.{ClientFault}
use Rattle.client_core.specs.declared.state.Event.{Event}
use Rattle.client_core.specs.States.{IsState, KeepsNumber}
use Rattle.client_core.specs.Replies.{reaction_to_reply}
use Rattle.client_core.specs.Feeding.{Course, start, course_after_reply, course_more, runs, takes_all, sends_of, events_of, fault_of, Gives, Follows}

pub runs_append : (k : Course) (fs gs : List Frame) → runs k (fs ++ gs) ≡ runs (runs k fs) gs
runs_append k [] gs = refl
runs_append k (f ∷ fs) gs = runs_append (course_more k f) fs gs

-- after a fault nothing is taken
pub fault_stays : (k : Course) (gs : List Frame) (x : ClientFault) → k.fault ≡ Some x → runs k gs ≡ k
fault_stays k [] x e = refl
fault_stays k (g ∷ gs) x e =
    let m : course_more k g ≡ k = stuck k g x e in
    ap (λ (y : Course). runs y gs) m ∙ fault_stays k gs x e
  where
    stuck : (k : Course) (g : Frame) (x : ClientFault) → k.fault ≡ Some x → course_more k g ≡ k
    stuck k g x e = rw e refl

-- the course one frame further
course_next : (c : ClientState) (fs : List Frame) (i : ℕ) (f : Frame) → i < length fs → f ≡ get_or fs i f → (takes_all c (take i fs)).fault ≡ None
    → takes_all c (take (i + 1) fs) ≡ course_after_reply (takes_all c (take i fs)) (reaction_to_reply (takes_all c (take i fs)).state f)
course_next c fs i f lt e none =
    let t : take (i + 1) fs ≡ take i fs ++ f ∷ [] = take_more fs i f lt ∙ ap (λ (x : Frame). take i fs ++ x ∷ []) (sym e) in
    ap (λ (x : List Frame). runs (start c) x) t ∙ runs_append (start c) (take i fs) (f ∷ []) ∙ go (takes_all c (take i fs)) none
  where
    go : (k : Course) → k.fault ≡ None → course_more k f ≡ course_after_reply k (reaction_to_reply k.state f)
    go k none = rw none refl

-- the first i frames were taken, and all is well
pub record SoFar (c : ClientState) (k : Course) (state : ClientState) (out : List ℕ) (events : List Event) : Type 0 where
  pub gives : Gives k out events
  pub good : k.fault ≡ None
  pub state_is : state ≡ k.state
  pub fits : IsState state
  pub number : state.number ≡ c.number

-- what one more reply added
pub record Adds (state : ClientState) (f : Frame) (state2 : ClientState) (out out2 : List ℕ) (events events2 : List Event)
    (fault : Option ClientFault) : Type 0 where
  pub fault_is : fault ≡ fault_of (reaction_to_reply state f).reaction
  pub state_is : state2 ≡ (reaction_to_reply state f).state
  pub written : out2 ≡ out ++ flat_map encoding (sends_of (reaction_to_reply state f).reaction)
  pub each : AllByRecursion IsFrame (sends_of (reaction_to_reply state f).reaction)
  pub reported : events2 ≡ events ++ events_of (reaction_to_reply state f).reaction

gives_more : (k : Course) (f : Frame) (state2 : ClientState) (out out2 : List ℕ) (events events2 : List Event) (fault : Option ClientFault) →
    Gives k out events → Adds k.state f state2 out out2 events events2 fault
    → Gives (course_after_reply k (reaction_to_reply k.state f)) out2 events2
gives_more k f state2 out out2 events events2 fault g a = record {
  written = a.written ∙ ap (λ (x : List ℕ). x ++ flat_map encoding (sends_of (reaction_to_reply k.state f).reaction)) g.written
      ∙ sym (flat_map-append encoding k.sends (sends_of (reaction_to_reply k.state f).reaction));
  each = all_append IsFrame k.sends (sends_of (reaction_to_reply k.state f).reaction) g.each a.each;
  reported = a.reported ∙ ap (λ (x : List Event). x ++ events_of (reaction_to_reply k.state f).reaction) g.reported;
}

adds_at : (state k_state : ClientState) (f : Frame) (state2 : ClientState) (out out2 : List ℕ) (events events2 : List Event) (fault : Option ClientFault) →
    state ≡ k_state
    → Adds state f state2 out out2 events events2 fault → Adds k_state f state2 out out2 events events2 fault
adds_at state k_state f state2 out out2 events events2 fault e a = let P : ClientState → Type 0 = λ x. Adds x f state2 out out2 events events2 fault in
    subst P e a

pub next : (c : ClientState) (fs : List Frame) (i : ℕ) (f : Frame) (state state2 : ClientState) (out out2 : List ℕ) (events events2 : List Event) →
    i < length fs → f ≡ get_or fs i f
    → SoFar c (takes_all c (take i fs)) state out events → Adds state f state2 out out2 events events2 None → KeepsNumber state state2 →
    SoFar c (takes_all c (take (i + 1) fs)) state2 out2 events2
next c fs i f state state2 out out2 events events2 lt e s a keeps =
    let n = course_next c fs i f lt e s.good in
    let b = adds_at state (takes_all c (take i fs)).state f state2 out out2 events events2 None s.state_is a in
    rw n (record {
      gives = gives_more (takes_all c (take i fs)) f state2 out out2 events events2 None s.gives b;
      good = sym b.fault_is;
      state_is = b.state_is;
      fits = keeps.good;
      number = keeps.number ∙ s.number;
    })

-- a bad reply ends the course
pub bad : (c : ClientState) (fs : List Frame) (i : ℕ) (f : Frame) (state state2 : ClientState) (out out2 : List ℕ) (events events2 : List Event)
    (x : ClientFault) → i < length fs → f ≡ get_or fs i f
    → SoFar c (takes_all c (take i fs)) state out events → Adds state f state2 out out2 events events2 (Some x) →
    Follows (takes_all c fs) out2 events2 (Some x) state2
bad c fs i f state state2 out out2 events events2 x lt e s a =
    let k = takes_all c (take i fs) in
    let n = course_next c fs i f lt e s.good in
    let b = adds_at state k.state f state2 out out2 events events2 (Some x) s.state_is a in
    let here : (takes_all c (take (i + 1) fs)).fault ≡ Some x = ap (λ (y : Course). y.fault) n ∙ sym b.fault_is in
    let all : takes_all c fs ≡ runs (takes_all c (take (i + 1) fs)) (drop (i + 1) fs) =
    ap (λ (y : List Frame). takes_all c y) (sym (take-append-drop (i + 1) fs)) ∙ runs_append (start c) (take (i + 1) fs) (drop (i + 1) fs) in
    let whole : takes_all c fs ≡ course_after_reply k (reaction_to_reply k.state f) =
    all ∙ fault_stays (takes_all c (take (i + 1) fs)) (drop (i + 1) fs) x here ∙ n in
    rw whole (record { gives = gives_more k f state2 out out2 events events2 (Some x) s.gives b; fault_is = b.fault_is; state = b.state_is })
