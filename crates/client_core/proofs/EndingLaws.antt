-- How a call ends, and what is spent by then.
use Rattle.std.proofs.Common.{◌≡◌, ◌≢◌, ℕ, ◌+◌, Bool, true, false, cond, List, [], ◌∷◌, ◌++◌, length, take, Option, Some, None, refl, sym, ap, subst, ◌∙◌, inl, inr}
use Rattle.std.specs.Prelude.{◌==◌, ◌&&◌, not, MatchBool, is_some, ◌⊎◌}
use Rattle.std.proofs.lemmas.Bool.{and_parts, eqb-true, eqb-false}
use Rattle.std.proofs.lemmas.List.{append-nil, append_assoc}
use Rattle.frame_codec.specs.declared.frame.Frame.{Frame}
use Rattle.frame_codec.specs.declared.frame.Frame.TheVariants as frame
use Rattle.frame_codec.specs.Rows.{RowList}
use Rattle.pir_schemes.specs.declared.plan.Plan.{Plan}
use Rattle.pir_schemes.specs.declared.scheme.Scheme.{Scheme}
use Rattle.pir_schemes.specs.declared.scheme.Scheme.TheVariants.{Simple}
use Rattle.pir_schemes.specs.Schemes.{scheme_byte}
use Rattle.pir_schemes.specs.Plans.{record_of}
use Rattle.client_core.specs.States.{shape_known}
use Rattle.pir_schemes.specs.Retrievals.{hint_len, answer_count, reading}
use Rattle.client_core.specs.declared.state.ClientState.{ClientState}
use Rattle.client_core.specs.declared.state.ServerInfo.{ServerInfo}
use Rattle.client_core.specs.declared.state.Hint.{Hint}
use Rattle.client_core.specs.declared.state.Call.{Call}
use Rattle.client_core.specs.declared.state.Call.TheVariants.{Idle, Hello, Sync, Delta, Changes, Ask, Edit, Append, Publish}
use Rattle.client_core.specs.declared.state.Event.{Event}
use Rattle.client_core.specs.declared.state.Event.TheVariants.{Welcomed, Synced, Retrieved, Unreadable, Stale, Done, Refused}
use Rattle.client_core.specs.declared.state.ClientFault.{ClientFault}
use Rattle.client_core.specs.declared.state.Reaction.{Reaction}
use Rattle.client_core.specs.declared.state.Reaction.TheVariants.{Asks, Reports, Fails}
use Rattle.client_core.specs.Replies.{AfterReply, reaction_to_reply, is_accepted_welcome, is_part, reaction_to_part, event_read, plan_given, is_answer, is_current, reaction_to_stale, row_numbers, is_delta, reaction_to_delta, is_changes, reaction_to_changes, reaction_to_no_delta}
use Rattle.client_core.specs.Kinds.{takes_welcome, takes_asked_part, takes_part, answered, takes_answer, takes_stale, takes_delta, takes_changes, takes_no_delta, takes_done, takes_refused}
use Rattle.client_core.specs.Feeding.{Client, Course, start, course_after_reply, course_more, runs, takes_all, sends_of, events_of, fault_of, failing, ends_with, codec_fault, Follows, BreaksOff, FeedsOpen, FeedsFailed}
use Rattle.client_core.specs.Endings.{Ends, FirstEventEndsTheCall, FeedingSpendsNoNumber}
use Rattle.client_core.proofs.NumberLaws.{takes_number}

-- ---- what a reply leads to, by the call: its end, a failure, or a call that ends with the same
-- events

abbrev by_reaction : Call → Call → Reaction → Type 0
by_reaction call next (Reports e) = Ends call e
by_reaction call next (Asks s v p) = (e : Event) → Ends next e → Ends call e
by_reaction call next (Fails f) = Unit {0}

abbrev ReactsTo : Call → AfterReply → Type 0
ReactsTo call t = by_reaction call t.state.call t.reaction

if_reacts : (call : Call) (b : Bool) (x y : AfterReply) → (b ≡ true → ReactsTo call x) → ReactsTo call y → ReactsTo call (cond b x y)
if_reacts call true x y p q = p refl
if_reacts call false x y p q = q

welcome_reacts : (call : Call) (c : ClientState) (plan : Plan) (count version : ℕ) →
    ReactsTo call (takes_welcome call c plan count version)
welcome_reacts Idle c plan count version = tt
welcome_reacts Hello c plan count version = if_reacts Hello (is_accepted_welcome c.profile plan count version) _ _ (λ _. tt) tt
welcome_reacts (Sync s v p) c plan count version = tt
welcome_reacts (Delta since) c plan count version = tt
welcome_reacts (Changes since) c plan count version = tt
welcome_reacts (Ask i v m) c plan count version = tt
welcome_reacts Edit c plan count version = tt
welcome_reacts Append c plan count version = tt
welcome_reacts Publish c plan count version = tt

-- the number of the next part says nothing of the end
next_part : (s : Scheme) (v p q : ℕ) (e : Event) → Ends (Sync s v q) e → Ends (Sync s v p) e
next_part s v p q (Welcomed version) h = h
next_part s v p q (Synced of version) h = h
next_part s v p q (Retrieved index version bytes) h = h
next_part s v p q (Unreadable index version) h = h
next_part s v p q (Stale version) h = h
next_part s v p q (Done version) h = h
next_part s v p q (Refused code) h = h

asked_part_reacts : (known : Option ServerInfo) (s : Scheme) (c : ClientState) (v p scheme version part : ℕ) (words : List ℕ) →
    ReactsTo (Sync s v p) (takes_asked_part known s c v p scheme version part words)
asked_part_reacts None s c v p scheme version part words = tt
asked_part_reacts (Some k) s c v p scheme version part words =
    if_reacts (Sync s v p) (is_part s (hint_len s (shape_known k) k.plan.dimension) v p scheme version part words) (reaction_to_part s k c v p (c.parts ++ words)) _
    (λ _. if_reacts (Sync s v p) (length (c.parts ++ words) == hint_len s (shape_known k) k.plan.dimension) _ _ (λ _. (refl, refl)) (next_part s v p (p + 1)))
    tt

part_reacts : (call : Call) (c : ClientState) (scheme version part : ℕ) (words : List ℕ) → ReactsTo call (takes_part call c scheme version part words)
part_reacts Idle c scheme version part words = tt
part_reacts Hello c scheme version part words = tt
part_reacts (Sync s v p) c scheme version part words = asked_part_reacts c.known s c v p scheme version part words
part_reacts (Delta since) c scheme version part words = tt
part_reacts (Changes since) c scheme version part words = tt
part_reacts (Ask i v m) c scheme version part words = tt
part_reacts Edit c scheme version part words = tt
part_reacts Append c scheme version part words = tt
part_reacts Publish c scheme version part words = tt

-- a record's event is of the record and the version asked
of_record : (i v m version : ℕ) (given : Option (List ℕ)) → version ≡ v → Ends (Ask i v m) (event_read i version given)
of_record i v m version (Some bytes) e = (refl, e)
of_record i v m version None e = (refl, e)

asked_version : (s : Scheme) (scheme version v : ℕ) (b : Bool) → ((scheme == scheme_byte s) && ((version == v) && b)) ≡ true → version ≡ v
asked_version s scheme version v b h =
    let x = and_parts (scheme == scheme_byte s) ((version == v) && b) h in
    let y = and_parts (version == v) b x.1 in
    eqb-true version v y.0

answered_reacts : (known : Option ServerInfo) (hint : Option Hint) (c : ClientState) (i v m scheme version : ℕ) (words : List ℕ) →
    ReactsTo (Ask i v m) (answered known hint c i v m scheme version words)
answered_reacts None hint c i v m scheme version words = tt
answered_reacts (Some k) None c i v m scheme version words = tt
answered_reacts (Some k) (Some h) c i v m scheme version words =
    let b = length words == answer_count h.scheme (shape_known k) k.plan.dimension in
    if_reacts (Ask i v m) (is_answer h.scheme k v scheme version words) _ _
    (λ is. of_record i v m version (record_of k.plan (reading h.scheme (shape_known k) h.matrix c.seed m i words)) (asked_version h.scheme scheme version v b is))
    tt

answer_reacts : (call : Call) (c : ClientState) (scheme version : ℕ) (words : List ℕ) → ReactsTo call (takes_answer call c scheme version words)
answer_reacts Idle c scheme version words = tt
answer_reacts Hello c scheme version words = tt
answer_reacts (Sync s v p) c scheme version words = tt
answer_reacts (Delta since) c scheme version words = tt
answer_reacts (Changes since) c scheme version words = tt
answer_reacts (Ask i v m) c scheme version words = answered_reacts c.known c.hint c i v m scheme version words
answer_reacts Edit c scheme version words = tt
answer_reacts Append c scheme version words = tt
answer_reacts Publish c scheme version words = tt

another_version : (version v : ℕ) (b : Bool) → (not (version == v) && b) ≡ true → version ≢ v
another_version version v b h = let x = and_parts (not (version == v)) b h in eqb-false version v (denied (version == v) x.0)
  where
    denied : (x : Bool) → not x ≡ true → x ≡ false
    denied true h = absurd cc
    denied false h = refl

stale_sync_reacts : (known : Option ServerInfo) (after c : ClientState) (s : Scheme) (v p version count : ℕ) →
    ReactsTo (Sync s v p) (reaction_to_stale known after c v version count)
stale_sync_reacts None after c s v p version count = tt
stale_sync_reacts (Some k) after c s v p version count =
    let b = is_current k version count in
    if_reacts (Sync s v p) (not (version == v) && b) _ _ (another_version version v b) tt

stale_ask_reacts : (known : Option ServerInfo) (after c : ClientState) (i v m version count : ℕ) →
    ReactsTo (Ask i v m) (reaction_to_stale known after c v version count)
stale_ask_reacts None after c i v m version count = tt
stale_ask_reacts (Some k) after c i v m version count =
    let b = is_current k version count in
    if_reacts (Ask i v m) (not (version == v) && b) _ _ (another_version version v b) tt

stale_reacts : (call : Call) (c : ClientState) (version count : ℕ) → ReactsTo call (takes_stale call c version count)
stale_reacts Idle c version count = tt
stale_reacts Hello c version count = tt
stale_reacts (Sync s v p) c version count = stale_sync_reacts c.known (record c { parts = [] }) c s v p version count
stale_reacts (Delta since) c version count = tt
stale_reacts (Changes since) c version count = tt
stale_reacts (Ask i v m) c version count = stale_ask_reacts c.known c c i v m version count
stale_reacts Edit c version count = tt
stale_reacts Append c version count = tt
stale_reacts Publish c version count = tt

moved_reacts : (known : Option ServerInfo) (hint : Option Hint) (c : ClientState) (asked since now count : ℕ) (rows : RowList) →
    ReactsTo (Delta asked) (reaction_to_delta known hint c asked since now count rows)
moved_reacts None hint c asked since now count rows = tt
moved_reacts (Some k) None c asked since now count rows = tt
moved_reacts (Some k) (Some h) c asked since now count rows =
    if_reacts (Delta asked) (is_delta k asked since now count rows.dimension (row_numbers rows)) _ _ (λ _. refl) tt

delta_reacts : (call : Call) (c : ClientState) (since now count : ℕ) (rows : RowList) → ReactsTo call (takes_delta call c since now count rows)
delta_reacts Idle c since now count rows = tt
delta_reacts Hello c since now count rows = tt
delta_reacts (Sync s v p) c since now count rows = tt
delta_reacts (Delta asked) c since now count rows = moved_reacts c.known c.hint c asked since now count rows
delta_reacts (Changes asked) c since now count rows = tt
delta_reacts (Ask i v m) c since now count rows = tt
delta_reacts Edit c since now count rows = tt
delta_reacts Append c since now count rows = tt
delta_reacts Publish c since now count rows = tt

changed_reacts : (known : Option ServerInfo) (hint : Option Hint) (c : ClientState) (asked since now count : ℕ) (entries : List ℕ) →
    ReactsTo (Changes asked) (reaction_to_changes known hint c asked since now count entries)
changed_reacts None hint c asked since now count entries = tt
changed_reacts (Some k) None c asked since now count entries = tt
changed_reacts (Some k) (Some h) c asked since now count entries =
    if_reacts (Changes asked) (is_changes k asked since now count entries) _ _ (λ _. refl) tt

changes_react : (call : Call) (c : ClientState) (since now count : ℕ) (entries : List ℕ) → ReactsTo call (takes_changes call c since now count entries)
changes_react Idle c since now count entries = tt
changes_react Hello c since now count entries = tt
changes_react (Sync s v p) c since now count entries = tt
changes_react (Delta asked) c since now count entries = tt
changes_react (Changes asked) c since now count entries = changed_reacts c.known c.hint c asked since now count entries
changes_react (Ask i v m) c since now count entries = tt
changes_react Edit c since now count entries = tt
changes_react Append c since now count entries = tt
changes_react Publish c since now count entries = tt

-- a sync that goes on by parts ends as one by what changed may
parts_end_delta : (asked v : ℕ) (e : Event) → Ends (Sync Simple v 0) e → Ends (Delta asked) e
parts_end_delta asked v (Welcomed version) h = h
parts_end_delta asked v (Synced of version) h = h.0
parts_end_delta asked v (Retrieved index version bytes) h = h
parts_end_delta asked v (Unreadable index version) h = h
parts_end_delta asked v (Stale version) h = tt
parts_end_delta asked v (Done version) h = h
parts_end_delta asked v (Refused code) h = h

parts_end_changes : (asked v : ℕ) (e : Event) → Ends (Sync Simple v 0) e → Ends (Changes asked) e
parts_end_changes asked v (Welcomed version) h = h
parts_end_changes asked v (Synced of version) h = h.0
parts_end_changes asked v (Retrieved index version bytes) h = h
parts_end_changes asked v (Unreadable index version) h = h
parts_end_changes asked v (Stale version) h = tt
parts_end_changes asked v (Done version) h = h
parts_end_changes asked v (Refused code) h = h

by_parts_reacts : (call : Call) (known : Option ServerInfo) (c : ClientState) (version count : ℕ) →
    ((e : Event) → Ends (Sync Simple version 0) e → Ends call e) → ReactsTo call (reaction_to_no_delta known c version count)
by_parts_reacts call None c version count ends = tt
by_parts_reacts call (Some k) c version count ends = if_reacts call (is_current k version count) _ _ (λ _. ends) tt

no_delta_reacts : (call : Call) (c : ClientState) (version count : ℕ) → ReactsTo call (takes_no_delta call c version count)
no_delta_reacts Idle c version count = tt
no_delta_reacts Hello c version count = tt
no_delta_reacts (Sync s v p) c version count = tt
no_delta_reacts (Delta asked) c version count = by_parts_reacts (Delta asked) c.known c version count (parts_end_delta asked version)
no_delta_reacts (Changes asked) c version count = by_parts_reacts (Changes asked) c.known c version count (parts_end_changes asked version)
no_delta_reacts (Ask i v m) c version count = tt
no_delta_reacts Edit c version count = tt
no_delta_reacts Append c version count = tt
no_delta_reacts Publish c version count = tt

done_reacts : (call : Call) (c : ClientState) (version : ℕ) → ReactsTo call (takes_done call c version)
done_reacts Idle c version = tt
done_reacts Hello c version = tt
done_reacts (Sync s v p) c version = tt
done_reacts (Delta since) c version = tt
done_reacts (Changes since) c version = tt
done_reacts (Ask i v m) c version = tt
done_reacts Edit c version = tt
done_reacts Append c version = tt
done_reacts Publish c version = tt

refused_reacts : (call : Call) (c : ClientState) (code : ℕ) → ReactsTo call (takes_refused call c code)
refused_reacts Idle c code = tt
refused_reacts Hello c code = tt
refused_reacts (Sync s v p) c code = tt
refused_reacts (Delta since) c code = tt
refused_reacts (Changes since) c code = tt
refused_reacts (Ask i v m) c code = tt
refused_reacts Edit c code = tt
refused_reacts Append c code = tt
refused_reacts Publish c code = tt

reacts : (c : ClientState) (f : Frame) → ReactsTo c.call (reaction_to_reply c f)
reacts c (frame.Welcome profile width record_len groups count version dimension seed) =
    welcome_reacts c.call c (plan_given profile width record_len groups dimension seed) count version
reacts c (frame.HintPart scheme version part words) = part_reacts c.call c scheme version part words
reacts c (frame.Answer scheme version words) = answer_reacts c.call c scheme version words
reacts c (frame.Stale version count) = stale_reacts c.call c version count
reacts c (frame.Delta since now count rows) = delta_reacts c.call c since now count rows
reacts c (frame.Changes since now count entries) = changes_react c.call c since now count entries
reacts c (frame.NoDelta version count) = no_delta_reacts c.call c version count
reacts c (frame.Done version) = done_reacts c.call c version
reacts c (frame.Refused code) = refused_reacts c.call c code
reacts c _ = tt

-- ---- replies one after another

-- a course's events stand at the beginning of those after more frames
events_begin : (k : Course) (fs : List Frame) → (rest : List Event) × ((runs k fs).events ≡ k.events ++ rest)
events_begin k [] = ([], sym (append-nil k.events))
events_begin k (f ∷ fs) =
    let h = events_begin (course_more k f) fs in
    let g = more k f in
    (g.0 ++ h.0, h.1 ∙ ap (λ (x : List Event). x ++ h.0) g.1 ∙ append_assoc k.events g.0 h.0)
  where
    more : (k : Course) (f : Frame) → (rest : List Event) × ((course_more k f).events ≡ k.events ++ rest)
    more k f = by (is_some k.fault)
      where
        by : (b : Bool) → (rest : List Event) × ((cond b k (course_after_reply k (reaction_to_reply k.state f))).events ≡ k.events ++ rest)
        by true = ([], sym (append-nil k.events))
        by false = (events_of (reaction_to_reply k.state f).reaction, refl)

abbrev course : ClientState → List Frame → List Event → Option ClientFault → Course
course c sends events fault = record { state = c; sends = sends; events = events; fault = fault }

-- every end of a client's call is one of the call that is asked about
abbrev Leads : Call → ClientState → Type 0
Leads call c = (e : Event) → Ends c.call e → Ends call e

on_reaction : (call : Call) (here : Call) (c : ClientState) (sends : List Frame) (r : Reaction) (fs : List Frame) (event : Event) (later : List Event)
    → ((c : ClientState) (sends : List Frame) (o : Option ClientFault) → (o ≡ None → Leads call c) → (runs (course c sends [] o) fs).events ≡ event ∷ later →
    Ends call event)
    → by_reaction here c.call r → ((e : Event) → Ends here e → Ends call e)
    → (runs (course c (sends ++ sends_of r) ([] ++ events_of r) (fault_of r)) fs).events ≡ event ∷ later → Ends call event
on_reaction call here c sends (Asks s v p) fs event later again by leads h = again c (sends ++ sends_of (Asks s v p)) None (λ _ e x. leads e (by e x)) h
on_reaction call here c sends (Reports e) fs event later again by leads h =
    let b = events_begin (course c (sends ++ []) (e ∷ []) None) fs in
    let same : e ∷ b.0 ≡ event ∷ later = sym b.1 ∙ h in
    let head : e ≡ event = ap (λ (x : List Event). first x e) same in
    leads event (let P : Event → Type 0 = Ends here in subst P head by)
  where
    first : List Event → Event → Event
    first [] e = e
    first (x ∷ xs) e = x
on_reaction call here c sends (Fails f) fs event later again by leads h = again c (sends ++ sends_of (Fails f)) (Some f) (λ n. absurd cc) h

first_of : (call : Call) (fs : List Frame) (event : Event) (later : List Event) (c : ClientState) (sends : List Frame) (o : Option ClientFault) →
    (o ≡ None → Leads call c)
    → (runs (course c sends [] o) fs).events ≡ event ∷ later → Ends call event
first_of call [] event later c sends o leads h = absurd (let bad : ◌≡◌ {A = List Event} [] (event ∷ later) = h in cc)
first_of call (f ∷ fs) event later c sends (Some x) leads h = first_of call fs event later c sends (Some x) leads h
first_of call (f ∷ fs) event later c sends None leads h =
    on_reaction call c.call (reaction_to_reply c f).state sends (reaction_to_reply c f).reaction fs event later (first_of call fs event later) (reacts c f)
    (leads refl) h

first_ends : (c : ClientState) (frames : List Frame) (event : Event) (later : List Event) → (takes_all c frames).events ≡ event ∷ later → Ends c.call event
first_ends c frames event later h = first_of c.call frames event later c [] None (λ _ e x. x) h

-- the codec's answer adds no event and spends no number
failing_same : (k : Course) (o : Option ClientFault) → ((failing k o).events ≡ k.events) × ((failing k o).state.number ≡ k.state.number)
failing_same k None = (refl, refl)
failing_same k (Some f) = by (is_some k.fault)
  where
    by : (b : Bool) → ((cond b k (record k { state = record k.state { failed = true }; fault = Some f })).events ≡ k.events)
        × ((cond b k (record k { state = record k.state { failed = true }; fault = Some f })).state.number ≡ k.state.number)
    by true = (refl, refl)
    by false = (refl, refl)

runs_number : (k : Course) (fs : List Frame) → (runs k fs).state.number ≡ k.state.number
runs_number k [] = refl
runs_number k (f ∷ fs) = runs_number (course_more k f) fs ∙ more (is_some k.fault)
  where
    more : (b : Bool) → (cond b k (course_after_reply k (reaction_to_reply k.state f))).state.number ≡ k.state.number
    more true = refl
    more false = takes_number k.state f

-- ---- a piece

open_ends : (old new : Client) (piece out : List ℕ) (event : Event) (later : List Event) (fault : Option ClientFault) →
    FeedsOpen old piece out (event ∷ later) fault new → Ends old.state.call event
open_ends old new piece out event later fault f = by f.takes
  where
    by : (Follows (ends_with (takes_all old.state f.frames) f.answer) out (event ∷ later) fault new.state
        ⊎ BreaksOff old.state f.frames out (event ∷ later) fault new.state) → Ends old.state.call event
    by (inl w) = first_ends old.state f.frames event later (sym (failing_same (takes_all old.state f.frames) (codec_fault f.answer)).0 ∙ sym w.gives.reported)
    by (inr b) = first_ends old.state (take b.n f.frames) event later (sym b.gives.reported)

open_number : (old new : Client) (piece out : List ℕ) (events : List Event) (fault : Option ClientFault) → FeedsOpen old piece out events fault new →
    new.state.number ≡ old.state.number
open_number old new piece out events fault f = by f.takes
  where
    by : (Follows (ends_with (takes_all old.state f.frames) f.answer) out events fault new.state ⊎ BreaksOff old.state f.frames out events fault new.state) →
        new.state.number ≡ old.state.number
    by (inl w) =
        ap (λ (x : ClientState). x.number) w.state
        ∙ (failing_same (takes_all old.state f.frames) (codec_fault f.answer)).1
        ∙ runs_number (start old.state) f.frames
    by (inr b) = b.number

pub first_event_ends_the_call : FirstEventEndsTheCall
first_event_ends_the_call old new piece out event later fault = by old.state.failed
  where
    by : (b : Bool) → MatchBool b (FeedsFailed old out (event ∷ later) fault new) (FeedsOpen old piece out (event ∷ later) fault new) →
        Ends old.state.call event
    by true f = absurd (let bad : ◌≡◌ {A = List Event} (event ∷ later) [] = f.silent in cc)
    by false f = open_ends old new piece out event later fault f

pub feeding_spends_no_number : FeedingSpendsNoNumber
feeding_spends_no_number old new piece out events fault = by old.state.failed
  where
    by : (b : Bool) → MatchBool b (FeedsFailed old out events fault new) (FeedsOpen old piece out events fault new) → new.state.number ≡ old.state.number
    by true f = ap (λ (x : Client). x.state.number) f.same
    by false f = open_number old new piece out events fault f
