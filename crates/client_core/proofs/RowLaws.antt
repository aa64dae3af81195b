-- A client that asks for a record wants no more of a SimplePIR hint than the record's rows.
use Rattle.std.proofs.Common.{◌≡◌, ◌^◌, ℕ, Bool, true, false, cond, List, [], ◌∷◌, Option, Some, None, refl, sym, ap, subst, ◌∙◌, inl, inr}
use Rattle.std.specs.Prelude.{◌⊎◌, ◌==◌, is_some, nat_lt}
use Rattle.frame_codec.specs.declared.frame.Frame.{Frame}
use Rattle.frame_codec.specs.declared.frame.Frame.TheVariants as frame
use Rattle.pir_schemes.specs.declared.scheme.Scheme.{Scheme}
use Rattle.pir_schemes.specs.Schemes.{scheme_byte}
use Rattle.pir_schemes.specs.Retrievals.{reading}
use Rattle.pir_schemes.proofs.RecordRows.{same_reading}
use Rattle.client_core.specs.declared.state.ClientState.{ClientState}
use Rattle.client_core.specs.declared.state.ServerInfo.{ServerInfo}
use Rattle.client_core.specs.declared.state.Hint.{Hint}
use Rattle.client_core.specs.declared.state.Call.{Call}
use Rattle.client_core.specs.declared.state.Call.TheVariants as call
use Rattle.client_core.specs.declared.state.Event.{Event}
use Rattle.client_core.specs.declared.state.Event.TheVariants as event
use Rattle.client_core.specs.declared.state.CallFault.{CallFault}
use Rattle.client_core.specs.declared.state.CallFault.TheVariants.{NotReady, Busy, BadIndex, SeedUsedUp, Failed}
use Rattle.client_core.specs.declared.state.ClientFault.TheVariants.{BadReply}
use Rattle.client_core.specs.States.{shape_known, is_idle, is_ready, known_version, known_count, scheme_held}
use Rattle.client_core.specs.Calls.{Ask, state_after_call, call_words}
use Rattle.client_core.specs.Replies.{AfterReply, reaction_to_reply, plan_given, faulty, ended, is_answer, with_current, reaction_to_stale}
use Rattle.client_core.specs.Kinds.{answered, takes_welcome, takes_part, takes_answer, takes_stale, takes_delta, takes_changes, takes_no_delta, takes_done, takes_refused, event_of}
use Rattle.client_core.specs.Feeding.{Course, start, course_after_reply, course_more, runs, takes_all}
use Rattle.client_core.specs.Resuming.{HasRowsOf, holding, course_holding, RowsOfTheRecordSuffice}

-- what a reply leads to, with this hint in place of the client's own
abbrev taken_holding : AfterReply → Hint → AfterReply
taken_holding t h = record t { state = holding t.state h }

chosen : (b : Bool) (x y : AfterReply) (h : Hint) → cond b (taken_holding x h) (taken_holding y h) ≡ taken_holding (cond b x y) h
chosen true x y h = refl
chosen false x y h = refl

-- ---- one reply

-- with no call outstanding every reply is bad
bad_when_idle : (c : ClientState) (f : Frame) → c.call ≡ call.Idle → reaction_to_reply c f ≡ faulty c BadReply
bad_when_idle c (frame.Welcome profile width record_len groups count version dimension seed) e =
    ap (λ (k : Call). takes_welcome k c (plan_given profile width record_len groups dimension seed) count version) e
bad_when_idle c (frame.HintPart scheme version part words) e = ap (λ (k : Call). takes_part k c scheme version part words) e
bad_when_idle c (frame.Answer scheme version words) e = ap (λ (k : Call). takes_answer k c scheme version words) e
bad_when_idle c (frame.Stale version count) e = ap (λ (k : Call). takes_stale k c version count) e
bad_when_idle c (frame.Delta since now count rows) e = ap (λ (k : Call). takes_delta k c since now count rows) e
bad_when_idle c (frame.Changes since now count entries) e = ap (λ (k : Call). takes_changes k c since now count entries) e
bad_when_idle c (frame.NoDelta version count) e = ap (λ (k : Call). takes_no_delta k c version count) e
bad_when_idle c (frame.Done version) e = ap (λ (k : Call). takes_done k c version) e
bad_when_idle c (frame.Refused code) e = ap (λ (k : Call). takes_refused k c code) e
bad_when_idle c _ e = refl

-- what a reply to an ask leads to
reply_to_ask : ClientState → ℕ → ℕ → ℕ → Frame → AfterReply
reply_to_ask c i v n (frame.Answer scheme version words) = answered c.known c.hint c i v n scheme version words
reply_to_ask c i v n (frame.Stale version count) = reaction_to_stale c.known c c v version count
reply_to_ask c i v n (frame.Refused code) = ended c (event.Refused code)
reply_to_ask c i v n _ = faulty c BadReply

when_asked : (c : ClientState) (i v n : ℕ) (f : Frame) → c.call ≡ call.Ask i v n → reaction_to_reply c f ≡ reply_to_ask c i v n f
unfolding reply_to_ask
when_asked c i v n (frame.Welcome profile width record_len groups count version dimension seed) e =
    ap (λ (k : Call). takes_welcome k c (plan_given profile width record_len groups dimension seed) count version) e
when_asked c i v n (frame.HintPart scheme version part words) e = ap (λ (k : Call). takes_part k c scheme version part words) e
when_asked c i v n (frame.Answer scheme version words) e = ap (λ (k : Call). takes_answer k c scheme version words) e
when_asked c i v n (frame.Stale version count) e = ap (λ (k : Call). takes_stale k c version count) e
when_asked c i v n (frame.Delta since now count rows) e = ap (λ (k : Call). takes_delta k c since now count rows) e
when_asked c i v n (frame.Changes since now count entries) e = ap (λ (k : Call). takes_changes k c since now count entries) e
when_asked c i v n (frame.NoDelta version count) e = ap (λ (k : Call). takes_no_delta k c version count) e
when_asked c i v n (frame.Done version) e = ap (λ (k : Call). takes_done k c version) e
when_asked c i v n (frame.Refused code) e = ap (λ (k : Call). takes_refused k c code) e
when_asked c i v n _ e = refl

answer_alike : (k : ServerInfo) (h part : Hint) (c : ClientState) (i v n scheme version : ℕ) (words : List ℕ) → HasRowsOf k h i part →
    answered (Some k) (Some part) (holding c part) i v n scheme version words ≡ taken_holding (answered (Some k) (Some h) c i v n scheme version words) part
answer_alike k h part c i v n scheme version words r =
    let digits : reading part.scheme (shape_known k) part.matrix c.seed n i words ≡ reading h.scheme (shape_known k) h.matrix c.seed n i words =
    ap (λ (s : Scheme). reading s (shape_known k) part.matrix c.seed n i words) r.scheme
    ∙ same_reading (shape_known k) h.matrix part.matrix c.seed n i words r.cols r.each
    ∙ sym (ap (λ (s : Scheme). reading s (shape_known k) h.matrix c.seed n i words) r.simple) in
    ap (λ (x : List ℕ). cond (is_answer part.scheme k v scheme version words) (ended (holding c part) (event_of k.plan i version x)) (faulty (holding c part) BadReply)) digits
    ∙ ap (λ (s : Scheme). cond (is_answer s k v scheme version words)
    (ended (holding c part) (event_of k.plan i version (reading h.scheme (shape_known k) h.matrix c.seed n i words))) (faulty (holding c part) BadReply))
    (r.scheme ∙ sym r.simple)
    ∙ chosen (is_answer h.scheme k v scheme version words)
    (ended c (event_of k.plan i version (reading h.scheme (shape_known k) h.matrix c.seed n i words))) (faulty c BadReply) part

-- the same of a client that holds that hint and knows that version
answered_alike : (k : ServerInfo) (h part : Hint) (c : ClientState) (i v n scheme version : ℕ) (words : List ℕ) → HasRowsOf k h i part → c.known ≡ Some k →
    c.hint ≡ Some h →
    answered c.known (Some part) (holding c part) i v n scheme version words ≡ taken_holding (answered c.known c.hint c i v n scheme version words) part
answered_alike k h part c i v n scheme version words r known hint =
    ap (λ (x : Option ServerInfo). answered x (Some part) (holding c part) i v n scheme version words) known
    ∙ answer_alike k h part c i v n scheme version words r
    ∙ sym (ap (λ (x : Option ServerInfo). taken_holding (answered x c.hint c i v n scheme version words) part) known
    ∙ ap (λ (x : Option Hint). taken_holding (answered (Some k) x c i v n scheme version words) part) hint)

stale_alike : (known : Option ServerInfo) (c : ClientState) (part : Hint) (v version count : ℕ) →
    reaction_to_stale known (holding c part) (holding c part) v version count ≡ taken_holding (reaction_to_stale known c c v version count) part
stale_alike None c part v version count = refl
stale_alike (Some k) c part v version count =
    chosen _ (ended (record c { known = Some (with_current k version count) }) (event.Stale version)) (faulty c BadReply) part

ask_alike : (k : ServerInfo) (h part : Hint) (c : ClientState) (i v n : ℕ) (f : Frame) → HasRowsOf k h i part → c.known ≡ Some k → c.hint ≡ Some h →
    reply_to_ask (holding c part) i v n f ≡ taken_holding (reply_to_ask c i v n f) part
unfolding reply_to_ask
ask_alike k h part c i v n (frame.Answer scheme version words) r known hint = answered_alike k h part c i v n scheme version words r known hint
ask_alike k h part c i v n (frame.Stale version count) r known hint = stale_alike c.known c part v version count
ask_alike k h part c i v n (frame.Refused code) r known hint = refl
ask_alike k h part c i v n _ r known hint = refl

-- ---- replies one after another

-- no call is outstanding, or the client has failed
abbrev IsSettled : Course → Type 0
IsSettled k = (k.state.call ≡ call.Idle) ⊎ (is_some k.fault ≡ true)

-- what a reply leads to settles the call
abbrev Settles : AfterReply → Type 0
Settles t = (k : Course) → IsSettled (course_after_reply k t)

chosen_settles : (b : Bool) (x y : AfterReply) → Settles x → Settles y → Settles (cond b x y)
chosen_settles true x y p q = p
chosen_settles false x y p q = q

ended_settles : (c : ClientState) (e : Event) → Settles (ended c e)
ended_settles c e = λ k. inl refl

faulty_settles : (c : ClientState) → Settles (faulty c BadReply)
faulty_settles c = λ k. inr refl

answered_settles : (known : Option ServerInfo) (hint : Option Hint) (c : ClientState) (i v n scheme version : ℕ) (words : List ℕ) →
    Settles (answered known hint c i v n scheme version words)
answered_settles None hint c i v n scheme version words = faulty_settles c
answered_settles (Some k) None c i v n scheme version words = faulty_settles c
answered_settles (Some k) (Some h) c i v n scheme version words =
    chosen_settles _ _ _ (ended_settles c (event_of k.plan i version (reading h.scheme (shape_known k) h.matrix c.seed n i words))) (faulty_settles c)

stale_settles : (known : Option ServerInfo) (c : ClientState) (v version count : ℕ) → Settles (reaction_to_stale known c c v version count)
stale_settles None c v version count = faulty_settles c
stale_settles (Some k) c v version count =
    chosen_settles _ _ _ (ended_settles (record c { known = Some (with_current k version count) }) (event.Stale version)) (faulty_settles c)

ask_settles : (c : ClientState) (i v n : ℕ) (f : Frame) → Settles (reply_to_ask c i v n f)
unfolding reply_to_ask
ask_settles c i v n (frame.Answer scheme version words) = answered_settles c.known c.hint c i v n scheme version words
ask_settles c i v n (frame.Stale version count) = stale_settles c.known c v version count
ask_settles c i v n (frame.Refused code) = ended_settles c (event.Refused code)
ask_settles c i v n _ = faulty_settles c

-- once the call is settled, one more reply leads to the same
settled_alike : (k : Course) (part : Hint) (f : Frame) → IsSettled k → course_more (course_holding k part) f ≡ course_holding (course_more k f) part
settled_alike k part f (inr failed) =
    ap (λ (b : Bool). cond b (course_holding k part) (course_after_reply (course_holding k part) (reaction_to_reply (holding k.state part) f))) failed
    ∙ sym (ap (λ (b : Bool). course_holding (cond b k (course_after_reply k (reaction_to_reply k.state f))) part) failed)
settled_alike k part f (inl idle) = by (is_some k.fault)
  where
    same : course_after_reply (course_holding k part) (reaction_to_reply (holding k.state part) f)
        ≡ course_holding (course_after_reply k (reaction_to_reply k.state f)) part
    same =
        ap (course_after_reply (course_holding k part)) (bad_when_idle (holding k.state part) f idle)
        ∙ sym (ap (λ (t : AfterReply). course_holding (course_after_reply k t) part) (bad_when_idle k.state f idle))

    by : (b : Bool) → cond b (course_holding k part) (course_after_reply (course_holding k part) (reaction_to_reply (holding k.state part) f))
        ≡ course_holding (cond b k (course_after_reply k (reaction_to_reply k.state f))) part
    by true = refl
    by false = same

stays_settled : (k : Course) (f : Frame) → IsSettled k → IsSettled (course_more k f)
stays_settled k f (inr failed) =
    inr (ap (λ (b : Bool). is_some (cond b k (course_after_reply k (reaction_to_reply k.state f))).fault) failed ∙ failed)
stays_settled k f (inl idle) = by (is_some k.fault)
  where
    by : (b : Bool) → IsSettled (cond b k (course_after_reply k (reaction_to_reply k.state f)))
    by true = inl idle
    by false = inl (ap (λ (t : AfterReply). t.state.call) (bad_when_idle k.state f idle) ∙ idle)

settled_runs : (k : Course) (part : Hint) (fs : List Frame) → IsSettled k → runs (course_holding k part) fs ≡ course_holding (runs k fs) part
settled_runs k part [] s = refl
settled_runs k part (f ∷ fs) s =
    ap (λ (x : Course). runs x fs) (settled_alike k part f s) ∙ settled_runs (course_more k f) part fs (stays_settled k f s)

-- the replies to an ask
ask_runs : (k : ServerInfo) (h part : Hint) (c : ClientState) (i v n : ℕ) (fs : List Frame) → HasRowsOf k h i part → c.known ≡ Some k →
    c.hint ≡ Some h → c.call ≡ call.Ask i v n → takes_all (holding c part) fs ≡ course_holding (takes_all c fs) part
ask_runs k h part c i v n [] r known hint asked = refl
ask_runs k h part c i v n (f ∷ fs) r known hint asked =
    let whole : reaction_to_reply c f ≡ reply_to_ask c i v n f = when_asked c i v n f asked in
    let alike : reaction_to_reply (holding c part) f ≡ taken_holding (reaction_to_reply c f) part =
    when_asked (holding c part) i v n f asked ∙ ask_alike k h part c i v n f r known hint ∙ sym (ap (λ (t : AfterReply). taken_holding t part) whole) in
    let settled : IsSettled (course_after_reply (start c) (reaction_to_reply c f)) =
    (let P : AfterReply → Type 0 = λ t. IsSettled (course_after_reply (start c) t) in subst P (sym whole) (ask_settles c i v n f (start c))) in
    ap (λ (t : AfterReply). runs (course_after_reply (start (holding c part)) t) fs) alike
    ∙ settled_runs (course_after_reply (start c) (reaction_to_reply c f)) part fs settled

-- ---- the ask

-- whether an ask is refused, by whether a hint of the last version known is held
abbrev refusal_by : ClientState → ℕ → Bool → Option CallFault
refusal_by c i ready =
    cond c.failed (Some Failed)
    (cond ready
    (cond (is_idle c.call) (cond (nat_lt i (known_count c.known)) (cond (nat_lt c.number (2 ^ 62)) None (Some SeedUsedUp)) (Some BadIndex)) (Some Busy))
    (Some NotReady))

-- a hint of the same version is held
ready_alike : (k : ServerInfo) (h part : Hint) (c : ClientState) (i : ℕ) → HasRowsOf k h i part → c.known ≡ Some k → c.hint ≡ Some h →
    is_ready c.known (Some part) ≡ is_ready c.known c.hint
ready_alike k h part c i r known hint =
    ap (λ (x : Option ServerInfo). is_ready x (Some part)) known
    ∙ ap (λ (v : ℕ). v == k.version) r.version
    ∙ sym (ap (λ (x : Option ServerInfo). is_ready x c.hint) known ∙ ap (λ (x : Option Hint). is_ready (Some k) x) hint)

pub rows_of_the_record_suffice : RowsOfTheRecordSuffice
rows_of_the_record_suffice c k h part i known hint r =
    let scheme : part.scheme ≡ scheme_held c.hint = r.scheme ∙ sym (ap scheme_held hint ∙ r.simple) in
    record {
      refusal = ap (refusal_by c i) (ready_alike k h part c i r known hint);
      frame = ap (λ (s : Scheme). frame.Query (scheme_byte s) (known_version c.known) (call_words c.known s c.seed c.number i)) scheme;
      replies = λ fs. ask_runs k h part (state_after_call (Ask i) c) i (known_version c.known) c.number fs r known hint refl;
    }
