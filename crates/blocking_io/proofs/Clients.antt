-- Pieces of a server's stream, one after another.
use Rattle.std.proofs.Common.{◌≡◌, ◌+◌, ℕ, Bool, true, false, List, [], ◌∷◌, ◌++◌, length, take, Option, Some, None, is_some, Result, Ok, Err, refl, sym, ap, subst, ◌∙◌, append_assoc, arith, inl, inr}
use Rattle.std.specs.Prelude.{MatchBool, if◌then◌else◌}
use Rattle.std.specs.List.{flat_map, AllByRecursion}
use Rattle.std.proofs.lemmas.List.{append-nil, length-append}
use Rattle.std.proofs.lemmas.List.Concat.{flat_map-append}
use Rattle.frame_codec.specs.declared.frame.Frame.{Frame}
use Rattle.frame_codec.specs.declared.frame.Frame.TheVariants as frame
use Rattle.frame_codec.specs.declared.reader.ReadFault.{ReadFault}
use Rattle.frame_codec.specs.declared.reader.ReadFault.TheVariants as read_fault
use Rattle.frame_codec.specs.Rows.{RowList}
use Rattle.frame_codec.specs.Frames.{IsFrame, encoding}
use Rattle.frame_codec.specs.Streams.{Feeds}
use Rattle.frame_codec.proofs.Runs.{all_append}
use Rattle.digit_pack.specs.Layout.{is_wide}
use Rattle.client_core.specs.States.{is_wide_client, shape_known}
use Rattle.client_core.specs.declared.state.ClientState.{ClientState}
use Rattle.client_core.specs.declared.state.ServerInfo.{ServerInfo}
use Rattle.client_core.specs.declared.state.Hint.{Hint}
use Rattle.client_core.specs.declared.state.Call.{Call}
use Rattle.client_core.specs.declared.state.Call.TheVariants.{Idle, Hello, Sync, Delta, Changes, Ask, Edit, Append, Publish}
use Rattle.client_core.specs.declared.state.ClientFault.{ClientFault}
use Rattle.client_core.specs.declared.state.ClientFault.TheVariants as client
use Rattle.client_core.specs.declared.state.Event.{Event}
use Rattle.pir_schemes.specs.declared.scheme.Scheme.{Scheme}
use Rattle.pir_schemes.specs.Retrievals.{hint_len}
use Rattle.pir_schemes.specs.declared.plan.Plan.{Plan}
use Rattle.client_core.specs.Replies.{AfterReply, faulty, plan_given, reaction_to_reply, is_accepted_welcome, is_part, reaction_to_part, reaction_to_stale, reaction_to_delta, reaction_to_changes, reaction_to_no_delta}
use Rattle.client_core.specs.Kinds.{takes_welcome, takes_part, takes_answer, takes_stale, takes_done, takes_refused, takes_asked_part, answered, takes_delta, takes_changes, takes_no_delta}
use Rattle.client_core.specs.Feeding.{Client, Course, start, course_after_reply, course_more, runs, takes_all, sends_of, fault_of, codec_fault, failing, ends_with, Gives, Follows, BreaksOff, FeedsOpen, FeedsFailed, FeedsClient}
use Rattle.client_core.proofs.Courses.{runs_append, fault_stays}
use Rattle.blocking_io.proofs.Streams.{take_both, feeds_both}

-- ---- a client fails with a fault alone, and no reply changes the next number or the profile
abbrev IsSound : ClientState → AfterReply → Type 0
IsSound c t = fault_of t.reaction ≡ None → (t.state.failed ≡ c.failed) × (t.state.number ≡ c.number) × (t.state.profile ≡ c.profile)

bad : (c : ClientState) (f : ClientFault) → IsSound c (faulty c f)
bad c f e = let no : Some f ≡ None = e in absurd cc

either : (c : ClientState) (b : Bool) (t u : AfterReply) → IsSound c t → IsSound c u → IsSound c (if b then t else u)
either c true t u a b = a
either c false t u a b = b

sound_welcome : (call : Call) (c : ClientState) (plan : Plan) (count v : ℕ) → IsSound c (takes_welcome call c plan count v)
sound_welcome Idle c plan count v = bad c client.BadReply
sound_welcome Hello c plan count v =
    either c (is_accepted_welcome c.profile plan count v) _ (faulty c client.BadWelcome) (λ _. (refl, refl, refl)) (bad c client.BadWelcome)
sound_welcome (Sync s w p) c plan count v = bad c client.BadReply
sound_welcome (Delta since) c plan count v = bad c client.BadReply
sound_welcome (Changes since) c plan count v = bad c client.BadReply
sound_welcome (Ask i w k) c plan count v = bad c client.BadReply
sound_welcome Edit c plan count v = bad c client.BadReply
sound_welcome Append c plan count v = bad c client.BadReply
sound_welcome Publish c plan count v = bad c client.BadReply

sound_asked : (known : Option ServerInfo) (s : Scheme) (c : ClientState) (asked next scheme version part : ℕ) (words : List ℕ) →
    IsSound c (takes_asked_part known s c asked next scheme version part words)
sound_asked None s c asked next scheme version part words = bad c client.BadReply
sound_asked (Some k) s c asked next scheme version part words =
    either c (is_part s (hint_len s (shape_known k) k.plan.dimension) asked next scheme version part words) (reaction_to_part s k c asked next (c.parts ++ words))
    (faulty c client.BadReply)
    (either c _ _ _ (λ _. (refl, refl, refl)) (λ _. (refl, refl, refl))) (bad c client.BadReply)

sound_part : (call : Call) (c : ClientState) (scheme version part : ℕ) (words : List ℕ) → IsSound c (takes_part call c scheme version part words)
sound_part Idle c scheme version part words = bad c client.BadReply
sound_part Hello c scheme version part words = bad c client.BadReply
sound_part (Sync s v p) c scheme version part words = sound_asked c.known s c v p scheme version part words
sound_part (Delta since) c scheme version part words = bad c client.BadReply
sound_part (Changes since) c scheme version part words = bad c client.BadReply
sound_part (Ask i v k) c scheme version part words = bad c client.BadReply
sound_part Edit c scheme version part words = bad c client.BadReply
sound_part Append c scheme version part words = bad c client.BadReply
sound_part Publish c scheme version part words = bad c client.BadReply

sound_answered : (known : Option ServerInfo) (hint : Option Hint) (c : ClientState) (i asked number scheme version : ℕ) (words : List ℕ) →
    IsSound c (answered known hint c i asked number scheme version words)
sound_answered None hint c i asked number scheme version words = bad c client.BadReply
sound_answered (Some k) None c i asked number scheme version words = bad c client.BadReply
sound_answered (Some k) (Some h) c i asked number scheme version words = either c _ _ (faulty c client.BadReply) (λ _. (refl, refl, refl)) (bad c client.BadReply)

sound_answer : (call : Call) (c : ClientState) (scheme version : ℕ) (words : List ℕ) → IsSound c (takes_answer call c scheme version words)
sound_answer Idle c scheme version words = bad c client.BadReply
sound_answer Hello c scheme version words = bad c client.BadReply
sound_answer (Sync s v p) c scheme version words = bad c client.BadReply
sound_answer (Delta since) c scheme version words = bad c client.BadReply
sound_answer (Changes since) c scheme version words = bad c client.BadReply
sound_answer (Ask i v k) c scheme version words = sound_answered c.known c.hint c i v k scheme version words
sound_answer Edit c scheme version words = bad c client.BadReply
sound_answer Append c scheme version words = bad c client.BadReply
sound_answer Publish c scheme version words = bad c client.BadReply

sound_staled : (known : Option ServerInfo) (after c : ClientState) (asked version count : ℕ) → (after.failed ≡ c.failed) × (after.number ≡ c.number) × (after.profile ≡ c.profile) →
    IsSound c (reaction_to_stale known after c asked version count)
sound_staled None after c asked version count e = bad c client.BadReply
sound_staled (Some k) after c asked version count e = either c _ _ (faulty c client.BadReply) (λ _. e) (bad c client.BadReply)

sound_stale : (call : Call) (c : ClientState) (version count : ℕ) → IsSound c (takes_stale call c version count)
sound_stale Idle c version count = bad c client.BadReply
sound_stale Hello c version count = bad c client.BadReply
sound_stale (Sync s v p) c version count = sound_staled c.known (record c { parts = [] }) c v version count (refl, refl, refl)
sound_stale (Delta since) c version count = bad c client.BadReply
sound_stale (Changes since) c version count = bad c client.BadReply
sound_stale (Ask i v k) c version count = sound_staled c.known c c v version count (refl, refl, refl)
sound_stale Edit c version count = bad c client.BadReply
sound_stale Append c version count = bad c client.BadReply
sound_stale Publish c version count = bad c client.BadReply

sound_moved : (known : Option ServerInfo) (hint : Option Hint) (c : ClientState) (asked since now count : ℕ) (rows : RowList) →
    IsSound c (reaction_to_delta known hint c asked since now count rows)
sound_moved None hint c asked since now count rows = bad c client.BadReply
sound_moved (Some k) None c asked since now count rows = bad c client.BadReply
sound_moved (Some k) (Some h) c asked since now count rows = either c _ _ (faulty c client.BadReply) (λ _. (refl, refl, refl)) (bad c client.BadReply)

sound_delta : (call : Call) (c : ClientState) (since now count : ℕ) (rows : RowList) → IsSound c (takes_delta call c since now count rows)
sound_delta Idle c since now count rows = bad c client.BadReply
sound_delta Hello c since now count rows = bad c client.BadReply
sound_delta (Sync s v p) c since now count rows = bad c client.BadReply
sound_delta (Delta asked) c since now count rows = sound_moved c.known c.hint c asked since now count rows
sound_delta (Changes asked) c since now count rows = bad c client.BadReply
sound_delta (Ask i v k) c since now count rows = bad c client.BadReply
sound_delta Edit c since now count rows = bad c client.BadReply
sound_delta Append c since now count rows = bad c client.BadReply
sound_delta Publish c since now count rows = bad c client.BadReply

sound_changed : (known : Option ServerInfo) (hint : Option Hint) (c : ClientState) (asked since now count : ℕ) (entries : List ℕ) →
    IsSound c (reaction_to_changes known hint c asked since now count entries)
sound_changed None hint c asked since now count entries = bad c client.BadReply
sound_changed (Some k) None c asked since now count entries = bad c client.BadReply
sound_changed (Some k) (Some h) c asked since now count entries = either c _ _ (faulty c client.BadReply) (λ _. (refl, refl, refl)) (bad c client.BadReply)

sound_changes : (call : Call) (c : ClientState) (since now count : ℕ) (entries : List ℕ) → IsSound c (takes_changes call c since now count entries)
sound_changes Idle c since now count entries = bad c client.BadReply
sound_changes Hello c since now count entries = bad c client.BadReply
sound_changes (Sync s v p) c since now count entries = bad c client.BadReply
sound_changes (Delta asked) c since now count entries = bad c client.BadReply
sound_changes (Changes asked) c since now count entries = sound_changed c.known c.hint c asked since now count entries
sound_changes (Ask i v k) c since now count entries = bad c client.BadReply
sound_changes Edit c since now count entries = bad c client.BadReply
sound_changes Append c since now count entries = bad c client.BadReply
sound_changes Publish c since now count entries = bad c client.BadReply

sound_by_parts : (known : Option ServerInfo) (c : ClientState) (version count : ℕ) → IsSound c (reaction_to_no_delta known c version count)
sound_by_parts None c version count = bad c client.BadReply
sound_by_parts (Some k) c version count = either c _ _ (faulty c client.BadReply) (λ _. (refl, refl, refl)) (bad c client.BadReply)

sound_no_delta : (call : Call) (c : ClientState) (version count : ℕ) → IsSound c (takes_no_delta call c version count)
sound_no_delta Idle c version count = bad c client.BadReply
sound_no_delta Hello c version count = bad c client.BadReply
sound_no_delta (Sync s v p) c version count = bad c client.BadReply
sound_no_delta (Delta asked) c version count = sound_by_parts c.known c version count
sound_no_delta (Changes asked) c version count = sound_by_parts c.known c version count
sound_no_delta (Ask i v k) c version count = bad c client.BadReply
sound_no_delta Edit c version count = bad c client.BadReply
sound_no_delta Append c version count = bad c client.BadReply
sound_no_delta Publish c version count = bad c client.BadReply

sound_done : (call : Call) (c : ClientState) (version : ℕ) → IsSound c (takes_done call c version)
sound_done Idle c version = bad c client.BadReply
sound_done Hello c version = bad c client.BadReply
sound_done (Sync s v p) c version = bad c client.BadReply
sound_done (Delta since) c version = bad c client.BadReply
sound_done (Changes since) c version = bad c client.BadReply
sound_done (Ask i v k) c version = bad c client.BadReply
sound_done Edit c version = λ _. (refl, refl, refl)
sound_done Append c version = λ _. (refl, refl, refl)
sound_done Publish c version = λ _. (refl, refl, refl)

sound_refused : (call : Call) (c : ClientState) (code : ℕ) → IsSound c (takes_refused call c code)
sound_refused Idle c code = bad c client.BadReply
sound_refused Hello c code = λ _. (refl, refl, refl)
sound_refused (Sync s v p) c code = λ _. (refl, refl, refl)
sound_refused (Delta since) c code = λ _. (refl, refl, refl)
sound_refused (Changes since) c code = λ _. (refl, refl, refl)
sound_refused (Ask i v k) c code = λ _. (refl, refl, refl)
sound_refused Edit c code = λ _. (refl, refl, refl)
sound_refused Append c code = λ _. (refl, refl, refl)
sound_refused Publish c code = λ _. (refl, refl, refl)

sound : (c : ClientState) (f : Frame) → IsSound c (reaction_to_reply c f)
sound c (frame.Load record_len groups width records) = bad c client.BadReply
sound c (frame.Hello profile key) = bad c client.BadReply
sound c (frame.HintAsk scheme version part) = bad c client.BadReply
sound c (frame.DeltaAsk since) = bad c client.BadReply
sound c (frame.Query scheme version words) = bad c client.BadReply
sound c (frame.Edit index bytes) = bad c client.BadReply
sound c frame.Publish = bad c client.BadReply
sound c frame.Bye = bad c client.BadReply
sound c (frame.Append bytes) = bad c client.BadReply
sound c (frame.ChangesAsk since) = bad c client.BadReply
sound c (frame.Welcome profile width record_len groups count version dimension seed) =
    sound_welcome c.call c (plan_given profile width record_len groups dimension seed) count version
sound c (frame.HintPart scheme version part words) = sound_part c.call c scheme version part words
sound c (frame.Delta since now count rows) = sound_delta c.call c since now count rows
sound c (frame.Answer scheme version words) = sound_answer c.call c scheme version words
sound c (frame.Stale version count) = sound_stale c.call c version count
sound c (frame.Done version) = sound_done c.call c version
sound c (frame.NoDelta version count) = sound_no_delta c.call c version count
sound c (frame.Changes since now count entries) = sound_changes c.call c since now count entries
sound c (frame.Refused code) = sound_refused c.call c code

none_is_not : {P : Type 0} (o : Option ClientFault) (x : ClientFault) → o ≡ Some x → o ≡ None → P
none_is_not o x s n = let no : Some x ≡ None = sym s ∙ n in absurd cc

abbrev Lives : ClientState → ClientState → Type 0
Lives c d = (d.failed ≡ c.failed) × (d.number ≡ c.number) × (d.profile ≡ c.profile)

more_lives : (k : Course) (f : Frame) (o : Option ClientFault) → k.fault ≡ o → (course_more k f).fault ≡ None → Lives k.state (course_more k f).state
more_lives k f (Some x) e n =
    let P : Option ClientFault → Type 0 = λ o. (if is_some o then k else course_after_reply k (reaction_to_reply k.state f)).fault ≡ k.fault in
    let same : (course_more k f).fault ≡ k.fault = subst P (sym e) refl in
    none_is_not k.fault x e (sym same ∙ n)
more_lives k f None e n =
    let Q : Option ClientFault → Type 0 =
    λ o. (if is_some o then k else course_after_reply k (reaction_to_reply k.state f)) ≡ course_after_reply k (reaction_to_reply k.state f) in
    let same : course_more k f ≡ course_after_reply k (reaction_to_reply k.state f) = subst Q (sym e) refl in
    let s = sound k.state f (ap (λ (y : Course). y.fault) (sym same) ∙ n) in
    (ap (λ (y : Course). y.state.failed) same ∙ s.0, ap (λ (y : Course). y.state.number) same ∙ s.1, ap (λ (y : Course). y.state.profile) same ∙ s.2)

runs_lives : (k : Course) (fs : List Frame) → (runs k fs).fault ≡ None → Lives k.state (runs k fs).state
runs_lives k [] n = (refl, refl, refl)
runs_lives k (f ∷ fs) n = by_next (course_more k f).fault refl (runs_lives (course_more k f) fs n)
  where
    by_next : (o : Option ClientFault) → (course_more k f).fault ≡ o → Lives (course_more k f).state (runs (course_more k f) fs).state →
        Lives k.state (runs (course_more k f) fs).state
    by_next None e later =
        let one = more_lives k f k.fault refl e in
        (later.0 ∙ one.0, later.1 ∙ one.1, later.2 ∙ one.2)
    by_next (Some x) e later = none_is_not (course_more k f).fault x e (ap (λ (y : Course). y.fault) (sym (fault_stays (course_more k f) fs x e)) ∙ n)

-- ---- a course after what was sent before

abbrev beyond : List Frame → Course → Course
beyond s k = record { state = k.state; sends = s ++ k.sends; events = k.events; fault = k.fault }

abbrev course : ClientState → List Frame → List Event → Option ClientFault → Course
course c ss es o = record { state = c; sends = ss; events = es; fault = o }

more_after : (s : List Frame) (c : ClientState) (ss : List Frame) (es : List Event) (o : Option ClientFault) (f : Frame) →
    course_more (beyond s (course c ss es o)) f ≡ beyond s (course_more (course c ss es o) f)
more_after s c ss es None f = rw (append_assoc s ss (sends_of (reaction_to_reply c f).reaction)) refl
more_after s c ss es (Some x) f = refl

runs_after : (s : List Frame) (k : Course) (fs : List Frame) → runs (beyond s k) fs ≡ beyond s (runs k fs)
runs_after s k [] = refl
runs_after s k (f ∷ fs) = ap (λ (y : Course). runs y fs) (more_after s k.state k.sends k.events k.fault f) ∙ runs_after s (course_more k f) fs

failing_after : (s : List Frame) (c : ClientState) (ss : List Frame) (es : List Event) (o fault : Option ClientFault) →
    failing (beyond s (course c ss es o)) fault ≡ beyond s (failing (course c ss es o) fault)
failing_after s c ss es o None = refl
failing_after s c ss es None (Some x) = refl
failing_after s c ss es (Some y) (Some x) = refl

failing_fails : (c : ClientState) (ss : List Frame) (es : List Event) (o : Option ClientFault) (x : ClientFault) →
    (failing (course c ss es o) (Some x)).fault ≡ None → ⊥
failing_fails c ss es None x n = let no : Some x ≡ None = n in cc
failing_fails c ss es (Some y) x n = let no : Some y ≡ None = n in cc

well_read : (k : Course) (answer : Result (Unit {0}) ReadFault) → (ends_with k answer).fault ≡ None → answer ≡ Ok tt
well_read k (Ok d) n = refl
well_read k (Err read_fault.TooLong) n = absurd (failing_fails k.state k.sends k.events k.fault client.BadReply n)
well_read k (Err read_fault.UnknownKind) n = absurd (failing_fails k.state k.sends k.events k.fault client.BadReply n)
well_read k (Err read_fault.BadPayload) n = absurd (failing_fails k.state k.sends k.events k.fault client.BadReply n)
well_read k (Err read_fault.Memory) n = absurd (failing_fails k.state k.sends k.events k.fault client.Memory n)
well_read k (Err read_fault.Failed) n = absurd (failing_fails k.state k.sends k.events k.fault client.BadReply n)

-- ---- two pieces

-- what the first of them did: all its frames were taken, and nothing was told
record First (old : Client) (read out : List ℕ) (mid : Client) : Type 0 where
  frames : List Frame
  reads : Feeds (is_wide_client old.state) old.reader read (Ok tt) frames mid.reader
  sends : List Frame
  out_is : out ≡ flat_map encoding sends
  each : AllByRecursion IsFrame sends
  course_is : takes_all old.state frames ≡ beyond sends (start mid.state)
  lives : Lives old.state mid.state

first_followed : (old : Client) (read out : List ℕ) (mid : Client) (frames : List Frame) (answer : Result (Unit {0}) ReadFault) →
    Feeds (is_wide_client old.state) old.reader read answer frames mid.reader
    → Follows (ends_with (takes_all old.state frames) answer) out [] None mid.state → First old read out mid
first_followed old read out mid frames answer reads f =
    let k : Course = takes_all old.state frames in
    let well : answer ≡ Ok tt = well_read k answer (sym f.fault_is) in
    let same : ends_with k answer ≡ k = ap (λ (r : Result (Unit {0}) ReadFault). ends_with k r) well in
    let g : Follows k out [] None mid.state = subst (λ (y : Course). Follows y out [] None mid.state) same f in
    let make : ClientState → List Frame → List Event → Option ClientFault → Course = course in
    record {
      frames = frames;
      reads = subst (λ (r : Result (Unit {0}) ReadFault). Feeds (is_wide_client old.state) old.reader read r frames mid.reader) well reads;
      sends = k.sends;
      out_is = g.gives.written;
      each = g.gives.each;
      course_is = ap (λ (c : ClientState). make c k.sends k.events k.fault) (sym g.state)
          ∙ ap (λ (es : List Event). make mid.state k.sends es k.fault) (sym g.gives.reported)
          ∙ ap (λ (o : Option ClientFault). make mid.state k.sends [] o) (sym g.fault_is)
          ∙ ap (λ (ss : List Frame). make mid.state ss [] None) (sym (append-nil k.sends));
      lives = subst (Lives old.state) (sym g.state) (runs_lives (start old.state) frames (sym g.fault_is));
    }

first_of : (old : Client) (read out : List ℕ) (mid : Client) → FeedsOpen old read out [] None mid → First old read out mid
first_of old read out mid a = elim a.takes [
  | inl f ↦ first_followed old read out mid a.frames a.answer a.reads f
  | inr b ↦ absurd (let no : None ≡ Some client.Memory = b.fault_is in cc)
]

-- the course of both
both_run : (old : Client) (read out : List ℕ) (mid : Client) (a : First old read out mid) (gs : List Frame) →
    takes_all old.state (a.frames ++ gs) ≡ beyond a.sends (takes_all mid.state gs)
both_run old read out mid a gs =
    runs_append (start old.state) a.frames gs ∙ ap (λ (y : Course). runs y gs) a.course_is ∙ runs_after a.sends (start mid.state) gs

gives_after : (s : List Frame) (k : Course) (out more : List ℕ) (events : List Event) → out ≡ flat_map encoding s → AllByRecursion IsFrame s →
    Gives k more events → Gives (beyond s k) (out ++ more) events
gives_after s k out more events e all g = record {
  written = ap (λ (y : List ℕ). y ++ more) e ∙ ap (λ (y : List ℕ). flat_map encoding s ++ y) g.written ∙ sym (flat_map-append encoding s k.sends);
  each = all_append IsFrame s k.sends all g.each;
  reported = g.reported;
}

followed_after : (old : Client) (read out : List ℕ) (mid : Client) (a : First old read out mid) (gs : List Frame) (answer : Result (Unit {0}) ReadFault)
    (more : List ℕ) (events : List Event) (fault : Option ClientFault) (new : ClientState)
    → Follows (ends_with (takes_all mid.state gs) answer) more events fault new →
    Follows (ends_with (takes_all old.state (a.frames ++ gs)) answer) (out ++ more) events fault new
followed_after old read out mid a gs answer more events fault new f =
    let k : Course = takes_all mid.state gs in
    let e : ends_with (takes_all old.state (a.frames ++ gs)) answer ≡ beyond a.sends (ends_with k answer) =
    ap (λ (y : Course). ends_with y answer) (both_run old read out mid a gs) ∙ failing_after a.sends k.state k.sends k.events k.fault (codec_fault answer) in
    subst (λ (y : Course). Follows y (out ++ more) events fault new) (sym e)
    (record { gives = gives_after a.sends (ends_with k answer) out more events a.out_is a.each f.gives; fault_is = f.fault_is; state = f.state })

broken_after : (old : Client) (read out : List ℕ) (mid : Client) (a : First old read out mid) (gs : List Frame) (more : List ℕ) (events : List Event)
    (fault : Option ClientFault) (new : ClientState)
    → BreaksOff mid.state gs more events fault new → BreaksOff old.state (a.frames ++ gs) (out ++ more) events fault new
broken_after old read out mid a gs more events fault new b =
    let e : takes_all old.state (take (length a.frames + b.n) (a.frames ++ gs)) ≡ beyond a.sends (takes_all mid.state (take b.n gs)) =
    ap (λ (fs : List Frame). takes_all old.state fs) (take_both b.n a.frames gs) ∙ both_run old read out mid a (take b.n gs) in
    record {
      n = length a.frames + b.n;
      inside = omega (arith, length-append a.frames gs, b.inside);
      good = ap (λ (y : Course). y.fault) e ∙ b.good;
      gives = subst (λ (y : Course). Gives y (out ++ more) events) (sym e)
          (gives_after a.sends (takes_all mid.state (take b.n gs)) out more events a.out_is a.each b.gives);
      fault_is = b.fault_is;
      failed = b.failed;
      number = b.number ∙ a.lives.1;
    }

open_both : (old : Client) (read out : List ℕ) (mid : Client) (piece more : List ℕ) (events : List Event) (fault : Option ClientFault) (new : Client)
    → First old read out mid → FeedsOpen mid piece more events fault new → FeedsOpen old (read ++ piece) (out ++ more) events fault new
open_both old read out mid piece more events fault new a b = record {
  answer = b.answer;
  frames = a.frames ++ b.frames;
  reads = feeds_both (is_wide_client old.state) old.reader read piece b.answer a.frames b.frames mid.reader new.reader a.reads
      (subst (λ (p : ℕ). Feeds (is_wide p) mid.reader piece b.answer b.frames new.reader) a.lives.2 b.reads);
  takes = elim b.takes [
    | inl f ↦ inl (followed_after old read out mid a b.frames b.answer more events fault new.state f)
    | inr f ↦ inr (broken_after old read out mid a b.frames more events fault new.state f)
  ];
}

-- a client that is fed two pieces, of which the first brought no event and no fault, is fed both at
-- once
pub fed_both : (old : Client) (read out : List ℕ) (mid : Client) (piece more : List ℕ) (events : List Event) (fault : Option ClientFault) (new : Client)
    → FeedsClient old read out [] None mid → FeedsClient mid piece more events fault new → FeedsClient old (read ++ piece) (out ++ more) events fault new
fed_both old read out mid piece more events fault new a b = by_old old.state.failed refl a
  where
    by_mid : (failed : Bool) → failed ≡ mid.state.failed → mid.state.failed ≡ false →
        MatchBool failed (FeedsFailed mid more events fault new) (FeedsOpen mid piece more events fault new) → FeedsOpen mid piece more events fault new
    by_mid true e n m = let no : true ≡ false = e ∙ n in absurd cc
    by_mid false e n m = m

    by_old : (failed : Bool) → failed ≡ old.state.failed → MatchBool failed (FeedsFailed old out [] None mid) (FeedsOpen old read out [] None mid)
        → MatchBool failed (FeedsFailed old (out ++ more) events fault new) (FeedsOpen old (read ++ piece) (out ++ more) events fault new)
    by_old true e m = absurd (let no : None ≡ Some client.Failed = m.fault_is in cc)
    by_old false e m =
        let first = first_of old read out mid m in
        open_both old read out mid piece more events fault new first (by_mid mid.state.failed refl (first.lives.0 ∙ sym e) b)
