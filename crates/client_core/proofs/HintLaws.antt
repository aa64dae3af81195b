-- A hint is made of its parts.
use Rattle.std.proofs.Common.{◌≡◌, ℕ, ◌+◌, ◌*◌, Bool, true, false, cond, List, [], ◌∷◌, ◌++◌, length, drop, Option, Some, None, refl, sym, ap, subst, ◌∙◌, append_assoc, arith}
use Rattle.std.specs.Prelude.{◌==◌, ◌&&◌, not}
use Rattle.std.proofs.lemmas.Bool.{and_parts, eqb-true}
use Rattle.std.proofs.lemmas.List.{append-nil, take-append-drop, length-append, drop-drop}
use Rattle.matrix_u32.specs.Matrix.{WordMatrix}
use Rattle.frame_codec.specs.Rows.{Row, RowList, row_list, rows_in}
use Rattle.frame_codec.specs.declared.frame.Frame.{Frame}
use Rattle.frame_codec.specs.declared.frame.Frame.TheVariants as frame
use Rattle.client_core.specs.States.{shape_known}
use Rattle.pir_schemes.specs.declared.scheme.Scheme.{Scheme}
use Rattle.pir_schemes.specs.declared.scheme.Scheme.TheVariants.{Simple}
use Rattle.pir_schemes.specs.Schemes.{scheme_byte}
use Rattle.pir_schemes.specs.Parts.{part_of, part_len}
use Rattle.pir_schemes.specs.Retrievals.{hint_len}
use Rattle.client_core.specs.declared.state.ClientState.{ClientState}
use Rattle.client_core.specs.declared.state.ClientFault.TheVariants.{BadReply}
use Rattle.client_core.specs.declared.state.ServerInfo.{ServerInfo}
use Rattle.client_core.specs.declared.state.Hint.{Hint}
use Rattle.client_core.specs.declared.state.Call.{Call}
use Rattle.client_core.specs.declared.state.Call.TheVariants.{Idle, Sync}
use Rattle.client_core.specs.declared.state.Event.{Event}
use Rattle.client_core.specs.declared.state.Event.TheVariants.{Synced, Stale, Refused}
use Rattle.client_core.specs.declared.state.Reaction.TheVariants.{Asks, Reports, Fails}
use Rattle.client_core.specs.Replies.{AfterReply, plan_given, reaction_to_reply, faulty, ended, is_part, reaction_to_part, hint_made, reaction_to_stale, is_current, with_current, is_delta, row_numbers, with_rows_replaced, hint_with_rows, reaction_to_delta}
use Rattle.client_core.specs.Kinds.{takes_asked_part, takes_part, takes_welcome, takes_answer, takes_stale, takes_delta, takes_changes, takes_no_delta, takes_done, takes_refused}
use Rattle.client_core.specs.Feeding.{Course, course_after_reply, runs}
use Rattle.client_core.specs.Laws.{ArePartsFrom, ArePartsOf, IsMadeOfParts, SyncedHintIsMadeOfParts, PartsOfAHintMakeIt, DeltaMakesTheHint, rows_of}
use Rattle.client_core.proofs.Courses.{fault_stays}
use Rattle.client_core.proofs.MovedRows.{rows_sent, numbers_sent, named_rows_make_it}

-- a course that has told some events and has no fault
abbrev at : ClientState → List Frame → List Event → Course
at c sends events = record { state = c; sends = sends; events = events; fault = None }

-- what a reply to a sync by parts may lead to
data Leads (s : Scheme) (k : ServerInfo) (c : ClientState) (v p : ℕ) (f : Frame) : Type 0 where
  Whole : (words : List ℕ) → f ≡ frame.HintPart (scheme_byte s) v p words → length (c.parts ++ words) ≡ hint_len s (shape_known k) k.plan.dimension
      → reaction_to_reply c f ≡ ended (record c { hint = Some (hint_made s k v (c.parts ++ words)); parts = [] }) (Synced s v) → Leads s k c v p f
  More : (words : List ℕ) → f ≡ frame.HintPart (scheme_byte s) v p words
      → reaction_to_reply c f ≡ record { state = record c { call = Sync s v (p + 1); parts = c.parts ++ words }; reaction = Asks s v (p + 1) } →
      Leads s k c v p f
  Bad : (state : ClientState) → reaction_to_reply c f ≡ record { state = state; reaction = Fails BadReply } → Leads s k c v p f
  Reported : (state : ClientState) (version : ℕ) → state.call ≡ Idle → reaction_to_reply c f ≡ record { state = state; reaction = Reports (Stale version) } →
      Leads s k c v p f
  Turned : (state : ClientState) (code : ℕ) → state.call ≡ Idle → reaction_to_reply c f ≡ record { state = state; reaction = Reports (Refused code) } →
      Leads s k c v p f

bad_part : (s : Scheme) (k : ServerInfo) (c : ClientState) (v p : ℕ) (f : Frame) → reaction_to_reply c f ≡ faulty c BadReply → Leads s k c v p f
bad_part s k c v p f e = Bad (record c { failed = true }) e

part_is : (s : Scheme) (scheme version part v p : ℕ) (words : List ℕ) → scheme ≡ scheme_byte s → version ≡ v → part ≡ p →
    frame.HintPart scheme version part words ≡ frame.HintPart (scheme_byte s) v p words
part_is s scheme version part v p words a b d = cc

part_leads : (s : Scheme) (k : ServerInfo) (c : ClientState) (v p scheme version part : ℕ) (words : List ℕ) →
    reaction_to_reply c (frame.HintPart scheme version part words) ≡ takes_asked_part (Some k) s c v p scheme version part words
    → (b : Bool) → is_part s (hint_len s (shape_known k) k.plan.dimension) v p scheme version part words ≡ b → (w : Bool) →
    (length (c.parts ++ words) == hint_len s (shape_known k) k.plan.dimension) ≡ w → Leads s k c v p (frame.HintPart scheme version part words)
part_leads s k c v p scheme version part words e false h w whole =
    bad_part s k c v p (frame.HintPart scheme version part words) (e
    ∙ ap (λ (x : Bool). cond x (reaction_to_part s k c v p (c.parts ++ words)) (faulty c BadReply)) h)
part_leads s k c v p scheme version part words e true h w whole =
    let a = and_parts (scheme == scheme_byte s) ((version == v) && ((part == p) && (length words == part_len (hint_len s (shape_known k) k.plan.dimension) p))) h in
    let b = and_parts (version == v) ((part == p) && (length words == part_len (hint_len s (shape_known k) k.plan.dimension) p)) a.1 in
    let d = and_parts (part == p) (length words == part_len (hint_len s (shape_known k) k.plan.dimension) p) b.1 in
    let is = part_is s scheme version part v p words (eqb-true scheme (scheme_byte s) a.0) (eqb-true version v b.0) (eqb-true part p d.0) in
    let t : reaction_to_reply c (frame.HintPart scheme version part words) ≡ reaction_to_part s k c v p (c.parts ++ words) = e
    ∙ ap (λ (x : Bool). cond x (reaction_to_part s k c v p (c.parts ++ words)) (faulty c BadReply)) h in
    go w whole is t
  where
    go : (w : Bool) → (length (c.parts ++ words) == hint_len s (shape_known k) k.plan.dimension) ≡ w →
        frame.HintPart scheme version part words ≡ frame.HintPart (scheme_byte s) v p words
        → reaction_to_reply c (frame.HintPart scheme version part words) ≡ reaction_to_part s k c v p (c.parts ++ words) →
        Leads s k c v p (frame.HintPart scheme version part words)
    go true whole is t = Whole words is (eqb-true (length (c.parts ++ words)) (hint_len s (shape_known k) k.plan.dimension) whole) (t ∙ ap (λ (x : Bool). cond x
        (ended (record c { hint = Some (hint_made s k v (c.parts ++ words)); parts = [] }) (Synced s v))
        (record { state = record c { call = Sync s v (p + 1); parts = c.parts ++ words }; reaction = Asks s v (p + 1) })) whole)
    go false whole is t = More words is (t ∙ ap (λ (x : Bool). cond x
        (ended (record c { hint = Some (hint_made s k v (c.parts ++ words)); parts = [] }) (Synced s v))
        (record { state = record c { call = Sync s v (p + 1); parts = c.parts ++ words }; reaction = Asks s v (p + 1) })) whole)

reported_state : ServerInfo → ClientState → ℕ → ℕ → ClientState
reported_state k c version count = record c { parts = []; known = Some (with_current k version count); call = Idle }

stale_leads : (s : Scheme) (k : ServerInfo) (c : ClientState) (v p version count : ℕ) →
    reaction_to_reply c (frame.Stale version count) ≡ reaction_to_stale (Some k) (record c { parts = [] }) c v version count
    → (b : Bool) → (not (version == v) && is_current k version count) ≡ b → Leads s k c v p (frame.Stale version count)
unfolding reported_state
stale_leads s k c v p version count e true h = Reported (reported_state k c version count) version refl (e ∙ ap (λ (x : Bool). cond x
    (ended (record c { parts = []; known = Some (with_current k version count) }) (Stale version)) (faulty c BadReply)) h)
stale_leads s k c v p version count e false h = bad_part s k c v p (frame.Stale version count) (e ∙ ap (λ (x : Bool). cond x
    (ended (record c { parts = []; known = Some (with_current k version count) }) (Stale version)) (faulty c BadReply)) h)

leads : (s : Scheme) (k : ServerInfo) (c : ClientState) (v p : ℕ) (f : Frame) → c.known ≡ Some k → c.call ≡ Sync s v p → Leads s k c v p f
leads s k c v p (frame.Welcome profile width record_len groups count version dimension seed) e a =
    bad_part s k c v p (frame.Welcome profile width record_len groups count version dimension seed)
    (ap (λ (x : Call). takes_welcome x c (plan_given profile width record_len groups dimension seed) count version) a)
leads s k c v p (frame.HintPart scheme version part words) e a =
    part_leads s k c v p scheme version part words
    (ap (λ (x : Call). takes_part x c scheme version part words) a ∙ ap (λ (x : Option ServerInfo). takes_asked_part x s c v p scheme version part words) e)
    (is_part s (hint_len s (shape_known k) k.plan.dimension) v p scheme version part words) refl (length (c.parts ++ words) == hint_len s (shape_known k) k.plan.dimension) refl
leads s k c v p (frame.Answer scheme version words) e a =
    bad_part s k c v p (frame.Answer scheme version words) (ap (λ (x : Call). takes_answer x c scheme version words) a)
leads s k c v p (frame.Stale version count) e a =
    stale_leads s k c v p version count
    (ap (λ (x : Call). takes_stale x c version count) a ∙ ap (λ (x : Option ServerInfo). reaction_to_stale x (record c { parts = [] }) c v version count) e)
    (not (version == v) && is_current k version count) refl
leads s k c v p (frame.Delta since now count rows) e a =
    bad_part s k c v p (frame.Delta since now count rows) (ap (λ (x : Call). takes_delta x c since now count rows) a)
leads s k c v p (frame.Changes since now count entries) e a =
    bad_part s k c v p (frame.Changes since now count entries) (ap (λ (x : Call). takes_changes x c since now count entries) a)
leads s k c v p (frame.NoDelta version count) e a =
    bad_part s k c v p (frame.NoDelta version count) (ap (λ (x : Call). takes_no_delta x c version count) a)
leads s k c v p (frame.Done version) e a = bad_part s k c v p (frame.Done version) (ap (λ (x : Call). takes_done x c version) a)
leads s k c v p (frame.Refused code) e a = Turned (record c { parts = []; call = Idle }) code refl (ap (λ (x : Call). takes_refused x c code) a)
leads s k c v p f e a = bad_part s k c v p f refl

-- an idle client takes no frame
idle_bad : (c : ClientState) (f : Frame) → c.call ≡ Idle → reaction_to_reply c f ≡ faulty c BadReply
idle_bad c (frame.Welcome profile width record_len groups count version dimension seed) a =
    ap (λ (x : Call). takes_welcome x c (plan_given profile width record_len groups dimension seed) count version) a
idle_bad c (frame.HintPart scheme version part words) a = ap (λ (x : Call). takes_part x c scheme version part words) a
idle_bad c (frame.Answer scheme version words) a = ap (λ (x : Call). takes_answer x c scheme version words) a
idle_bad c (frame.Stale version count) a = ap (λ (x : Call). takes_stale x c version count) a
idle_bad c (frame.Delta since now count rows) a = ap (λ (x : Call). takes_delta x c since now count rows) a
idle_bad c (frame.Changes since now count entries) a = ap (λ (x : Call). takes_changes x c since now count entries) a
idle_bad c (frame.NoDelta version count) a = ap (λ (x : Call). takes_no_delta x c version count) a
idle_bad c (frame.Done version) a = ap (λ (x : Call). takes_done x c version) a
idle_bad c (frame.Refused code) a = ap (λ (x : Call). takes_refused x c code) a
idle_bad c f a = refl

-- a course with a bad reply keeps its fault
bad_ends : (k : Course) (state : ClientState) (fs : List Frame) (P : Type 0) →
    (runs (course_after_reply k (record { state = state; reaction = Fails BadReply })) fs).fault ≡ None → P
bad_ends k state fs P none =
    let stays = fault_stays (course_after_reply k (record { state = state; reaction = Fails BadReply })) fs BadReply refl in
    let f : (runs (course_after_reply k (record { state = state; reaction = Fails BadReply })) fs).fault ≡ Some BadReply = ap (λ (x : Course). x.fault) stays in
    absurd (let e : Some BadReply ≡ None = sym f ∙ none in cc)

ends_here : (c : ClientState) (sends : List Frame) (events : List Event) (fs : List Frame) → c.call ≡ Idle → (runs (at c sends events) fs).fault ≡ None →
    fs ≡ []
ends_here c sends events [] a none = refl
ends_here c sends events (g ∷ gs) a none =
    let t : runs (at c sends events) (g ∷ gs) ≡ runs (course_after_reply (at c sends events) (faulty c BadReply)) gs =
    ap (λ (x : AfterReply). runs (course_after_reply (at c sends events) x) gs) (idle_bad c g a) in
    bad_ends (at c sends events) (record c { failed = true }) gs (g ∷ gs ≡ []) (ap (λ (x : Course). x.fault) (sym t) ∙ none)

-- what a sync leads to that has come to part p
record Made (s : Scheme) (k : ServerInfo) (c : ClientState) (v p version : ℕ) (sends : List Frame) (fs : List Frame) : Type 0 where
  words : List ℕ
  parts : ArePartsFrom s v p fs words
  count : length (c.parts ++ words) ≡ hint_len s (shape_known k) k.plan.dimension
  same : version ≡ v
  hint : (runs (at c sends []) fs).state.hint ≡ Some (hint_made s k v (c.parts ++ words))

-- an event that isn't Synced ends no sync
not_synced : (s : Scheme) (c : ClientState) (sends : List Frame) (e : Event) (fs : List Frame) (version : ℕ) (P : Type 0) → c.call ≡ Idle →
    (runs (at c sends (e ∷ [])) fs).fault ≡ None
    → (runs (at c sends (e ∷ [])) fs).events ≡ Synced s version ∷ [] → (e ≡ Synced s version → P) → P
not_synced s c sends e fs version P a none reported other =
    let nil : fs ≡ [] = ends_here c sends (e ∷ []) fs a none in
    let t : (runs (at c sends (e ∷ [])) []).events ≡ Synced s version ∷ [] = let Q : List Frame →
    Type 0 = λ x. (runs (at c sends (e ∷ [])) x).events ≡ Synced s version ∷ [] in subst Q nil reported in
    other (let u : e ∷ [] ≡ Synced s version ∷ [] = t in cc)

synced_same : (s : Scheme) (v version : ℕ) → Synced s v ≡ Synced s version → version ≡ v
synced_same s v version e = cc

whole_made : (s : Scheme) (k : ServerInfo) (c : ClientState) (v p version : ℕ) (sends : List Frame) (f : Frame) (fs : List Frame) (words : List ℕ)
    → f ≡ frame.HintPart (scheme_byte s) v p words → length (c.parts ++ words) ≡ hint_len s (shape_known k) k.plan.dimension
    → reaction_to_reply c f ≡ ended (record c { hint = Some (hint_made s k v (c.parts ++ words)); parts = [] }) (Synced s v)
    → (runs (at c sends []) (f ∷ fs)).fault ≡ None → (runs (at c sends []) (f ∷ fs)).events ≡ Synced s version ∷ [] → Made s k c v p version sends (f ∷ fs)
whole_made s k c v p version sends f fs words is len t none reported =
    let d : ClientState = record c { hint = Some (hint_made s k v (c.parts ++ words)); parts = []; call = Idle } in
    let r : runs (at c sends []) (f ∷ fs) ≡ runs (at d (sends ++ []) (Synced s v ∷ [])) fs =
    ap (λ (x : AfterReply). runs (course_after_reply (at c sends []) x) fs) t in
    let good : (runs (at d (sends ++ []) (Synced s v ∷ [])) fs).fault ≡ None = ap (λ (x : Course). x.fault) (sym r) ∙ none in
    let said : (runs (at d (sends ++ []) (Synced s v ∷ [])) fs).events ≡ Synced s version ∷ [] = ap (λ (x : Course). x.events) (sym r) ∙ reported in
    let nil : fs ≡ [] = ends_here d (sends ++ []) (Synced s v ∷ []) fs refl good in
    record {
      words = words;
      parts = (words, [], is, sym (append-nil words), let Q : List Frame → Type 0 = λ x. ArePartsFrom s v (p + 1) x [] in subst Q (sym nil) refl);
      count = len;
      same = not_synced s d (sends ++ []) (Synced s v) fs version (version ≡ v) refl good said (synced_same s v version);
      hint = ap (λ (x : Course). x.state.hint) r ∙ ap (λ (x : List Frame). (runs (at d (sends ++ []) (Synced s v ∷ [])) x).state.hint) nil;
    }

abbrev further : Scheme → ClientState → ℕ → ℕ → List ℕ → ClientState
further s c v p words = record c { call = Sync s v (p + 1); parts = c.parts ++ words }

synced_from : (s : Scheme) (k : ServerInfo) (c : ClientState) (v p version : ℕ) (sends : List Frame) (fs : List Frame) → c.known ≡ Some k → c.call ≡ Sync s v p
    → (runs (at c sends []) fs).fault ≡ None → (runs (at c sends []) fs).events ≡ Synced s version ∷ [] → Made s k c v p version sends fs
synced_from s k c v p version sends [] e a none reported = absurd (let x : [] ≡ Synced s version ∷ [] = reported in cc)
synced_from s k c v p version sends (f ∷ fs) e a none reported =
    go (λ (words : List ℕ). synced_from s k (further s c v p words) v (p + 1) version (sends ++ (frame.HintAsk (scheme_byte s) v (p + 1) ∷ [])) fs e refl)
    (leads s k c v p f e a)
  where
    go : ((words : List ℕ) → (runs (at (further s c v p words) (sends ++ (frame.HintAsk (scheme_byte s) v (p + 1) ∷ [])) []) fs).fault ≡ None
        → (runs (at (further s c v p words) (sends ++ (frame.HintAsk (scheme_byte s) v (p + 1) ∷ [])) []) fs).events ≡ Synced s version ∷ []
        → Made s k (further s c v p words) v (p + 1) version (sends ++ (frame.HintAsk (scheme_byte s) v (p + 1) ∷ [])) fs)
        → Leads s k c v p f → Made s k c v p version sends (f ∷ fs)
    go later (Whole words is len t) = whole_made s k c v p version sends f fs words is len t none reported
    go later (More words is t) =
        let r : runs (at c sends []) (f ∷ fs) ≡ runs (at (further s c v p words) (sends ++ (frame.HintAsk (scheme_byte s) v (p + 1) ∷ [])) []) fs =
        ap (λ (x : AfterReply). runs (course_after_reply (at c sends []) x) fs) t in
        let m : Made s k (further s c v p words) v (p + 1) version (sends ++ (frame.HintAsk (scheme_byte s) v (p + 1) ∷ [])) fs =
        later words (ap (λ (x : Course). x.fault) (sym r) ∙ none) (ap (λ (x : Course). x.events) (sym r) ∙ reported) in
        record {
          words = words ++ m.words;
          parts = (words, m.words, is, refl, m.parts);
          count = ap length (sym (append_assoc c.parts words m.words)) ∙ m.count;
          same = m.same;
          hint = ap (λ (x : Course). x.state.hint) r ∙ m.hint ∙ ap (λ (x : List ℕ). Some (hint_made s k v x)) (append_assoc c.parts words m.words);
        }
    go later (Bad state t) =
        let r : runs (at c sends []) (f ∷ fs) ≡ runs (course_after_reply (at c sends []) (record { state = state; reaction = Fails BadReply })) fs =
        ap (λ (x : AfterReply). runs (course_after_reply (at c sends []) x) fs) t in
        bad_ends (at c sends []) state fs (Made s k c v p version sends (f ∷ fs)) (ap (λ (x : Course). x.fault) (sym r) ∙ none)
    go later (Reported state other idle t) =
        let r : runs (at c sends []) (f ∷ fs) ≡ runs (at state (sends ++ []) (Stale other ∷ [])) fs =
        ap (λ (x : AfterReply). runs (course_after_reply (at c sends []) x) fs) t in
        not_synced s state (sends ++ []) (Stale other) fs version (Made s k c v p version sends (f ∷ fs)) idle (ap (λ (x : Course). x.fault) (sym r) ∙ none)
        (ap (λ (x : Course). x.events) (sym r) ∙ reported) (λ (x : Stale other ≡ Synced s version). absurd (cc))
    go later (Turned state code idle t) =
        let r : runs (at c sends []) (f ∷ fs) ≡ runs (at state (sends ++ []) (Refused code ∷ [])) fs =
        ap (λ (x : AfterReply). runs (course_after_reply (at c sends []) x) fs) t in
        not_synced s state (sends ++ []) (Refused code) fs version (Made s k c v p version sends (f ∷ fs)) idle (ap (λ (x : Course). x.fault) (sym r) ∙ none)
        (ap (λ (x : Course). x.events) (sym r) ∙ reported) (λ (x : Refused code ≡ Synced s version). absurd (cc))

pub synced_is_made : SyncedHintIsMadeOfParts
synced_is_made c s k v version replies by =
    let m : Made s k c v 0 version [] replies = synced_from s k c v 0 version [] replies by.known by.asked by.good by.reported in
    let none : c.parts ++ m.words ≡ m.words = ap (λ (x : List ℕ). x ++ m.words) by.none in
    record {
      words = m.words;
      parts = m.parts;
      count = sym (ap length none) ∙ m.count;
      same = m.same;
      hint = m.hint ∙ ap (λ (x : List ℕ). Some (hint_made s k v x)) none;
    }

-- ---- the parts of one hint

parts_same : (s : Scheme) (v j : ℕ) (f : Frame) (here there : List ℕ) → f ≡ frame.HintPart (scheme_byte s) v j here →
    f ≡ frame.HintPart (scheme_byte s) v j there → here ≡ there
parts_same s v j f here there a b = cc

-- a part and what stands after it
part_and_rest : (whole : List ℕ) (j : ℕ) → part_of whole j ++ drop (65536 * (j + 1)) whole ≡ drop (65536 * j) whole
part_and_rest whole j =
    let d : drop 65536 (drop (65536 * j) whole) ≡ drop (65536 * j + 65536) whole = drop-drop 65536 (65536 * j) whole in
    let n : 65536 * j + 65536 ≡ 65536 * (j + 1) = omega arith in
    ap (λ (x : List ℕ). part_of whole j ++ x) (sym (d ∙ ap (λ (m : ℕ). drop m whole) n)) ∙ take-append-drop 65536 (drop (65536 * j) whole)

-- the words of the parts of a hint are its prefix, from the first part on
prefix_of : (s : Scheme) (whole : List ℕ) (v j : ℕ) (fs : List Frame) (words : List ℕ) → ArePartsFrom s v j fs words → ArePartsOf s whole v j fs →
    (rest : List ℕ) × (words ++ rest ≡ drop (65536 * j) whole)
prefix_of s whole v j [] words e u = (drop (65536 * j) whole, ap (λ (x : List ℕ). x ++ drop (65536 * j) whole) e)
prefix_of s whole v j (f ∷ fs) words e u =
    let r = prefix_of s whole v (j + 1) fs e.1 e.4 u.1 in
    let here : e.0 ≡ part_of whole j = parts_same s v j f e.0 (part_of whole j) e.2 u.0 in (
      r.0,
      ap (λ (x : List ℕ). x ++ r.0) e.3 ∙ append_assoc e.0 e.1 r.0 ∙ ap (λ (x : List ℕ). e.0 ++ x) r.1
          ∙ ap (λ (x : List ℕ). x ++ drop (65536 * (j + 1)) whole) here ∙ part_and_rest whole j,
    )

all_of_it : (words rest whole : List ℕ) → words ++ rest ≡ whole → length words ≡ length whole → words ≡ whole
all_of_it words [] whole e len = sym (append-nil words) ∙ e
all_of_it words (x ∷ rest) whole e len =
    absurd (let a : length (words ++ (x ∷ rest)) ≡ length words + length (x ∷ rest) = length-append words (x ∷ rest) in let b : length (words ++ (x ∷ rest))
    ≡ length whole = ap length e in omega arith)

abbrev some_hint : Scheme → ℕ → ℕ → ℕ → List ℕ → Option Hint
some_hint s v rows cols words = Some (record { scheme = s; version = v; matrix = record { rows = rows; cols = cols; words = words } })

pub parts_make_it : PartsOfAHintMakeIt
parts_make_it c s k v version replies hint by rows cols is_whole of =
    let m : IsMadeOfParts c s k v version replies = synced_is_made c s k v version replies by in
    let r = prefix_of s hint.words v 0 replies m.words m.parts of in
    let len : length m.words ≡ length hint.words = m.count ∙ ap (λ (x : ℕ). x * k.plan.dimension) (sym rows) ∙ ap (λ (x : ℕ). hint.rows * x) (sym cols)
    ∙ sym is_whole in
    let same : m.words ≡ hint.words = all_of_it m.words r.0 hint.words r.1 len in
    m.hint ∙ made m.words same
  where
    made : (words : List ℕ) → words ≡ hint.words → Some (hint_made s k v words) ≡ Some (record { scheme = s; version = v; matrix = hint })
    made words e =
        ap (λ (x : ℕ). some_hint s v x k.plan.dimension words) (sym rows)
        ∙ ap (λ (x : ℕ). some_hint s v hint.rows x words) (sym cols)
        ∙ ap (λ (x : List ℕ). some_hint s v hint.rows hint.cols x) e

-- ---- a Delta of one hint

pub delta_makes_it : DeltaMakesTheHint
delta_makes_it c k h since now count hint numbers known held asked is whole other rows cols same =
    let sent : RowList = row_list hint.cols (rows_of hint numbers) in
    let good : is_delta k since since now count hint.cols (row_numbers sent) ≡ true =
    ap (λ (x : List ℕ). is_delta k since since now count hint.cols x) (numbers_sent hint numbers) ∙ is in
    let made : with_rows_replaced h.matrix (rows_in sent) ≡ hint =
    ap (λ (x : List Row). with_rows_replaced h.matrix x) (rows_sent hint numbers) ∙ named_rows_make_it h.matrix hint numbers whole other rows cols same in
    ap (λ (x : Call). takes_delta x c since now count sent) asked
    ∙ ap (λ (x : Option ServerInfo). reaction_to_delta x c.hint c since since now count sent) known
    ∙ ap (λ (x : Option Hint). reaction_to_delta (Some k) x c since since now count sent) held
    ∙ ap (λ (x : Bool). cond x (ended (record c { known = Some (with_current k now count); hint = Some (hint_with_rows h now sent) }) (Synced Simple now))
    (faulty c BadReply)) good
    ∙ ap (λ (x : WordMatrix). ended (record c { known = Some (with_current k now count); hint = Some (record h { version = now; matrix = x }) })
    (Synced Simple now)) made
