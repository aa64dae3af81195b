-- A client's frames have the shapes that its happenings without their indices give.
use Rattle.std.proofs.Common.{◌≡◌, ◌≢◌, ℕ, ◌+◌, ◌*◌, ◌^◌, Bool, true, false, cond, List, [], ◌∷◌, ◌++◌, length, Option, Some, None, refl, sym, ap, ◌∙◌, inl, inr}
use Rattle.std.specs.Prelude.{map, ◌==◌, ◌&&◌, nat_lt, not, is_some, if◌then◌else◌}
use Rattle.std.specs.List.{AllByRecursion}
use Rattle.std.proofs.lemmas.Bool.{lt-ltb, cases_eq}
use Rattle.std.proofs.lemmas.List.{length-append, map-append}
use Rattle.frame_codec.specs.declared.frame.Frame.{Frame}
use Rattle.frame_codec.specs.declared.frame.Frame.TheVariants as frame
use Rattle.frame_codec.specs.Frames.{kind_of, payload_size}
use Rattle.frame_codec.proofs.Payloads.{payload_sized}
use Rattle.frame_codec.specs.Rows.{RowList}
use Rattle.pir_schemes.specs.declared.plan.Plan.{Plan}
use Rattle.pir_schemes.specs.declared.scheme.Scheme.{Scheme}
use Rattle.pir_schemes.specs.declared.scheme.Scheme.TheVariants.{Simple, Double}
use Rattle.pir_schemes.specs.Schemes.{scheme_byte}
use Rattle.pir_schemes.specs.Retrievals.{hint_len}
use Rattle.pir_schemes.proofs.Lengths.{length_query}
use Rattle.client_core.specs.declared.state.ClientState.{ClientState}
use Rattle.client_core.specs.declared.state.ServerInfo.{ServerInfo}
use Rattle.client_core.specs.declared.state.Hint.{Hint}
use Rattle.client_core.specs.declared.state.Call.{Call}
use Rattle.client_core.specs.declared.state.Call.TheVariants as call
use Rattle.client_core.specs.declared.state.CallFault.{CallFault}
use Rattle.client_core.specs.declared.state.CallFault.TheVariants.{NotReady, Busy, BadIndex, SeedUsedUp, Failed, AlreadyWelcome}
use Rattle.client_core.specs.States.{shape_known, is_idle, is_ready, known_version, known_count, scheme_held, delta_base, is_wide_client}
use Rattle.client_core.specs.Calls.{ClientCall, Hello, Sync, Ask, Edit, Append, Publish, frame_since, sync_frame, sync_begun, state_after_call, call_frame, call_words, call_refusal, spent}
use Rattle.client_core.specs.Replies.{AfterReply, plan_given, reaction_to_reply, is_accepted_welcome, is_part, reaction_to_part, is_answer, is_current, with_current, reaction_to_stale, row_numbers, is_delta, reaction_to_delta, is_changes, reaction_to_changes, reaction_to_no_delta}
use Rattle.client_core.specs.Kinds.{takes_welcome, takes_asked_part, takes_part, answered, takes_answer, takes_stale, takes_delta, takes_changes, takes_no_delta, takes_done, takes_refused}
use Rattle.client_core.specs.Feeding.{sends_of}
use Rattle.client_core.specs.Laws.{Happening, Accepted, TurnedDown, Lacking, Replied as Reply, Failing, after}
use Rattle.client_core.specs.Shapes.{frames_at, frames, FrameShape, shape_of_frame, frame_shape, BlankCall, BlankHello, BlankAsk, blank_call, blank_reply, BlankHappening, blank_happening, Awaited, NoReply, APart, awaited, HintName, hint_name, Outline, outline, asked_count, named_base, kind_since, sync_shape, call_shape, outline_of_sync, outline_after_call, outline_spent, Reacted, after_welcome, after_good_part, after_asked_part, after_part, after_asked_delta, after_delta, after_asked_changes, after_changes, after_asked_no_delta, after_no_delta, after_asked_answer, after_answer, after_asked_stale, after_stale, after_done, after_refused, after_reply, outline_after, shapes_at, shapes, HasWholeKey, KeyIsWhole, IndexIsBelow, EqualShapes}

-- a frame's shape by the size of its fields
pub sized : (f : Frame) → shape_of_frame f ≡ frame_shape (kind_of f) (payload_size f)
sized f = ap (λ (x : ℕ). frame_shape (kind_of f) x) (payload_sized f)

-- ---- calls

pub asked_length : (known : Option ServerInfo) (hint : Option Hint) (seed : List ℕ) (number i : ℕ) →
    length (call_words known (scheme_held hint) seed number i) ≡ asked_count known (hint_name hint)
asked_length None hint seed number i = refl
asked_length (Some k) None seed number i = length_query _ (shape_known k) k.plan.dimension k.plan.seed seed number i
asked_length (Some k) (Some h) seed number i = length_query h.scheme (shape_known k) k.plan.dimension k.plan.seed seed number i

-- a sync goes by delta from the version in the hint's name
pub base_named : (s : Scheme) (hint : Option Hint) → delta_base s hint ≡ named_base s (hint_name hint)
base_named Simple None = refl
base_named Simple (Some h) = refl
base_named Double None = refl
base_named Double (Some h) = refl

since_shaped : (wide : Bool) (since : ℕ) → shape_of_frame (frame_since wide since) ≡ frame_shape (kind_since wide) 8
since_shaped true since = sized (frame.ChangesAsk since)
since_shaped false since = sized (frame.DeltaAsk since)

sync_shaped : (base : Option ℕ) (s : Scheme) (c : ClientState) →
    shape_of_frame (sync_frame base s c) ≡ sync_shape (is_wide_client c) base
sync_shaped None s c = sized (frame.HintAsk (scheme_byte s) (known_version c.known) 0)
sync_shaped (Some since) s c = since_shaped (is_wide_client c) since

sync_outlined : (base : Option ℕ) (s : Scheme) (c : ClientState) → outline (sync_begun base s c) ≡ outline_of_sync base s (outline c)
sync_outlined None s c = refl
sync_outlined (Some since) s c = refl

call_shaped : (c : ClientState) (want : ClientCall) → HasWholeKey want → shape_of_frame (call_frame want c) ≡ call_shape (outline c) (blank_call want)
call_shaped c (Hello key) whole = sized (call_frame (Hello key) c) ∙ ap (λ (x : ℕ). frame_shape 2 (2 + x)) whole
call_shaped c (Sync scheme) whole = sync_shaped (delta_base scheme c.hint) scheme c ∙ ap (sync_shape (is_wide_client c)) (base_named scheme c.hint)
call_shaped c (Ask i) whole =
    sized (call_frame (Ask i) c)
    ∙ ap (λ (x : ℕ). frame_shape 5 (9 + 4 * x)) (asked_length c.known c.hint c.seed c.number i)
call_shaped c (Edit i bytes) whole = sized (frame.Edit i bytes)
call_shaped c (Append bytes) whole = sized (frame.Append bytes)
call_shaped c Publish whole = sized frame.Publish

call_outlined : (c : ClientState) (want : ClientCall) → outline (state_after_call want c) ≡ outline_after_call (blank_call want) (outline c)
call_outlined c (Hello key) = refl
call_outlined c (Sync scheme) =
    sync_outlined (delta_base scheme c.hint) scheme c ∙ ap (λ (x : Option ℕ). outline_of_sync x scheme (outline c)) (base_named scheme c.hint)
call_outlined c (Ask i) = refl
call_outlined c (Edit i bytes) = refl
call_outlined c (Append bytes) = refl
call_outlined c Publish = refl

spent_outlined : (c : ClientState) (want : ClientCall) → outline (spent want c) ≡ outline_spent (blank_call want) (outline c)
spent_outlined c (Hello key) = refl
spent_outlined c (Sync scheme) = refl
spent_outlined c (Ask i) = refl
spent_outlined c (Edit i bytes) = refl
spent_outlined c (Append bytes) = refl
spent_outlined c Publish = refl

-- ---- replies

abbrev reacted : AfterReply → Reacted
reacted t = record { outline = outline t.state; sends = map shape_of_frame (sends_of t.reaction) }

either : (b : Bool) (x y : AfterReply) (v w : Reacted) → reacted x ≡ v → reacted y ≡ w → reacted (cond b x y) ≡ cond b v w
either true x y v w p q = p
either false x y v w p q = q

welcome_reacts : (k : Call) (c : ClientState) (plan : Plan) (count version : ℕ) →
    reacted (takes_welcome k c plan count version) ≡ after_welcome (awaited k) (outline c) plan count version
welcome_reacts call.Idle c plan count version = refl
welcome_reacts call.Hello c plan count version = either (is_accepted_welcome c.profile plan count version) _ _ _ _ refl refl
welcome_reacts (call.Sync s v p) c plan count version = refl
welcome_reacts (call.Delta since) c plan count version = refl
welcome_reacts (call.Changes since) c plan count version = refl
welcome_reacts (call.Ask i v m) c plan count version = refl
welcome_reacts call.Edit c plan count version = refl
welcome_reacts call.Append c plan count version = refl
welcome_reacts call.Publish c plan count version = refl

next_asked : (s : Scheme) (k : ServerInfo) (c : ClientState) (v p : ℕ) (words : List ℕ) →
    reacted (reaction_to_part s k c v p words) ≡ after_good_part s k (outline c) v p (length words)
next_asked s k c v p words =
    either (length words == hint_len s (shape_known k) k.plan.dimension) _ _ _ _ refl
    (ap (λ (x : FrameShape). more x) (sized (frame.HintAsk (scheme_byte s) v (p + 1))))
  where
    more : FrameShape → Reacted
    more x = record { outline = record (outline c) { call = APart s v (p + 1); words = length words }; sends = x ∷ [] }

asked_part_reacts : (known : Option ServerInfo) (s : Scheme) (c : ClientState) (v p scheme version part : ℕ) (words : List ℕ)
    → reacted (takes_asked_part known s c v p scheme version part words) ≡ after_asked_part known s (outline c) v p scheme version part (length words)
asked_part_reacts None s c v p scheme version part words = refl
asked_part_reacts (Some k) s c v p scheme version part words =
    either (is_part s (hint_len s (shape_known k) k.plan.dimension) v p scheme version part words) (reaction_to_part s k c v p (c.parts ++ words)) _ _ _
    (next_asked s k c v p (c.parts ++ words) ∙ ap (λ (x : ℕ). after_good_part s k (outline c) v p x) (length-append c.parts words))
    refl

part_reacts : (k : Call) (c : ClientState) (scheme version part : ℕ) (words : List ℕ) →
    reacted (takes_part k c scheme version part words) ≡ after_part (awaited k) (outline c) scheme version part (length words)
part_reacts call.Idle c scheme version part words = refl
part_reacts call.Hello c scheme version part words = refl
part_reacts (call.Sync s v p) c scheme version part words = asked_part_reacts c.known s c v p scheme version part words
part_reacts (call.Delta since) c scheme version part words = refl
part_reacts (call.Changes since) c scheme version part words = refl
part_reacts (call.Ask i v m) c scheme version part words = refl
part_reacts call.Edit c scheme version part words = refl
part_reacts call.Append c scheme version part words = refl
part_reacts call.Publish c scheme version part words = refl

answered_reacts : (known : Option ServerInfo) (hint : Option Hint) (c : ClientState) (i v m scheme version : ℕ) (words : List ℕ)
    → reacted (answered known hint c i v m scheme version words) ≡ after_asked_answer known (hint_name hint) (outline c) v scheme version (length words)
answered_reacts None hint c i v m scheme version words = refl
answered_reacts (Some k) None c i v m scheme version words = refl
answered_reacts (Some k) (Some h) c i v m scheme version words = either (is_answer h.scheme k v scheme version words) _ _ _ _ refl refl

answer_reacts : (k : Call) (c : ClientState) (scheme version : ℕ) (words : List ℕ) →
    reacted (takes_answer k c scheme version words) ≡ after_answer (awaited k) (outline c) scheme version (length words)
answer_reacts call.Idle c scheme version words = refl
answer_reacts call.Hello c scheme version words = refl
answer_reacts (call.Sync s v p) c scheme version words = refl
answer_reacts (call.Delta since) c scheme version words = refl
answer_reacts (call.Changes since) c scheme version words = refl
answer_reacts (call.Ask i v m) c scheme version words = answered_reacts c.known c.hint c i v m scheme version words
answer_reacts call.Edit c scheme version words = refl
answer_reacts call.Append c scheme version words = refl
answer_reacts call.Publish c scheme version words = refl

staled_reacts : (known : Option ServerInfo) (dropped c : ClientState) (asked version count : ℕ) →
    reacted (reaction_to_stale known dropped c asked version count) ≡ after_asked_stale known (outline dropped) (outline c) asked version count
staled_reacts None dropped c asked version count = refl
staled_reacts (Some k) dropped c asked version count =
    either (not (version == asked) && is_current k version count) _ _ _ _ refl refl

stale_reacts : (k : Call) (c : ClientState) (version count : ℕ) → reacted (takes_stale k c version count) ≡ after_stale (awaited k) (outline c) version count
stale_reacts call.Idle c version count = refl
stale_reacts call.Hello c version count = refl
stale_reacts (call.Sync s v p) c version count = staled_reacts c.known (record c { parts = [] }) c v version count
stale_reacts (call.Delta since) c version count = refl
stale_reacts (call.Changes since) c version count = refl
stale_reacts (call.Ask i v m) c version count = staled_reacts c.known c c v version count
stale_reacts call.Edit c version count = refl
stale_reacts call.Append c version count = refl
stale_reacts call.Publish c version count = refl

moved_reacts : (known : Option ServerInfo) (hint : Option Hint) (c : ClientState) (asked since now count : ℕ) (rows : RowList) →
    reacted (reaction_to_delta known hint c asked since now count rows)
    ≡ after_asked_delta known (hint_name hint) (outline c) asked since now count rows.dimension (row_numbers rows)
moved_reacts None hint c asked since now count rows = refl
moved_reacts (Some k) None c asked since now count rows = refl
moved_reacts (Some k) (Some h) c asked since now count rows =
    either (is_delta k asked since now count rows.dimension (row_numbers rows)) _ _ _ _ refl refl

delta_reacts : (k : Call) (c : ClientState) (since now count : ℕ) (rows : RowList) →
    reacted (takes_delta k c since now count rows) ≡ after_delta (awaited k) (outline c) since now count rows.dimension (row_numbers rows)
delta_reacts call.Idle c since now count rows = refl
delta_reacts call.Hello c since now count rows = refl
delta_reacts (call.Sync s v p) c since now count rows = refl
delta_reacts (call.Delta asked) c since now count rows = moved_reacts c.known c.hint c asked since now count rows
delta_reacts (call.Changes asked) c since now count rows = refl
delta_reacts (call.Ask i v m) c since now count rows = refl
delta_reacts call.Edit c since now count rows = refl
delta_reacts call.Append c since now count rows = refl
delta_reacts call.Publish c since now count rows = refl

changed_reacts : (known : Option ServerInfo) (hint : Option Hint) (c : ClientState) (asked since now count : ℕ) (entries : List ℕ) →
    reacted (reaction_to_changes known hint c asked since now count entries) ≡ after_asked_changes known (hint_name hint) (outline c) asked since now count entries
changed_reacts None hint c asked since now count entries = refl
changed_reacts (Some k) None c asked since now count entries = refl
changed_reacts (Some k) (Some h) c asked since now count entries = either (is_changes k asked since now count entries) _ _ _ _ refl refl

changes_react : (k : Call) (c : ClientState) (since now count : ℕ) (entries : List ℕ) →
    reacted (takes_changes k c since now count entries) ≡ after_changes (awaited k) (outline c) since now count entries
changes_react call.Idle c since now count entries = refl
changes_react call.Hello c since now count entries = refl
changes_react (call.Sync s v p) c since now count entries = refl
changes_react (call.Delta asked) c since now count entries = refl
changes_react (call.Changes asked) c since now count entries = changed_reacts c.known c.hint c asked since now count entries
changes_react (call.Ask i v m) c since now count entries = refl
changes_react call.Edit c since now count entries = refl
changes_react call.Append c since now count entries = refl
changes_react call.Publish c since now count entries = refl

by_parts_reacts : (known : Option ServerInfo) (c : ClientState) (version count : ℕ) →
    reacted (reaction_to_no_delta known c version count) ≡ after_asked_no_delta known (outline c) version count
by_parts_reacts None c version count = refl
by_parts_reacts (Some k) c version count =
    either (is_current k version count) _ _ _ _ (ap (λ (x : FrameShape). more x) (sized (frame.HintAsk (scheme_byte Simple) version 0))) refl
  where
    more : FrameShape → Reacted
    more x = record {
      outline = record (outline c) { known = Some (with_current k version count); hint = None; words = 0; call = APart Simple version 0 };
      sends = x ∷ [];
    }

no_delta_reacts : (k : Call) (c : ClientState) (version count : ℕ) →
    reacted (takes_no_delta k c version count) ≡ after_no_delta (awaited k) (outline c) version count
no_delta_reacts call.Idle c version count = refl
no_delta_reacts call.Hello c version count = refl
no_delta_reacts (call.Sync s v p) c version count = refl
no_delta_reacts (call.Delta asked) c version count = by_parts_reacts c.known c version count
no_delta_reacts (call.Changes asked) c version count = by_parts_reacts c.known c version count
no_delta_reacts (call.Ask i v m) c version count = refl
no_delta_reacts call.Edit c version count = refl
no_delta_reacts call.Append c version count = refl
no_delta_reacts call.Publish c version count = refl

done_reacts : (k : Call) (c : ClientState) (version : ℕ) → reacted (takes_done k c version) ≡ after_done (awaited k) (outline c)
done_reacts call.Idle c version = refl
done_reacts call.Hello c version = refl
done_reacts (call.Sync s v p) c version = refl
done_reacts (call.Delta since) c version = refl
done_reacts (call.Changes since) c version = refl
done_reacts (call.Ask i v m) c version = refl
done_reacts call.Edit c version = refl
done_reacts call.Append c version = refl
done_reacts call.Publish c version = refl

refused_reacts : (k : Call) (c : ClientState) (code : ℕ) → reacted (takes_refused k c code) ≡ after_refused (awaited k) (outline c)
refused_reacts call.Idle c code = refl
refused_reacts call.Hello c code = refl
refused_reacts (call.Sync s v p) c code = refl
refused_reacts (call.Delta since) c code = refl
refused_reacts (call.Changes since) c code = refl
refused_reacts (call.Ask i v m) c code = refl
refused_reacts call.Edit c code = refl
refused_reacts call.Append c code = refl
refused_reacts call.Publish c code = refl

reply_reacts : (c : ClientState) (f : Frame) → reacted (reaction_to_reply c f) ≡ after_reply (outline c) (blank_reply f)
reply_reacts c (frame.Welcome profile width record_len groups count version dimension seed) =
    welcome_reacts c.call c (plan_given profile width record_len groups dimension seed) count version
reply_reacts c (frame.HintPart scheme version part words) = part_reacts c.call c scheme version part words
reply_reacts c (frame.Answer scheme version words) = answer_reacts c.call c scheme version words
reply_reacts c (frame.Stale version count) = stale_reacts c.call c version count
reply_reacts c (frame.Delta since now count rows) = delta_reacts c.call c since now count rows
reply_reacts c (frame.Changes since now count entries) = changes_react c.call c since now count entries
reply_reacts c (frame.NoDelta version count) = no_delta_reacts c.call c version count
reply_reacts c (frame.Done version) = done_reacts c.call c version
reply_reacts c (frame.Refused code) = refused_reacts c.call c code
reply_reacts c _ = refl

-- ---- any happening

outline_is : (c : ClientState) (h : Happening) → outline (after c h) ≡ outline_after (outline c) (blank_happening h)
outline_is c (Accepted want) = call_outlined c want
outline_is c (TurnedDown want) = refl
outline_is c (Lacking want) = spent_outlined c want
outline_is c (Reply f) = ap (λ (x : Reacted). x.outline) (reply_reacts c f)
outline_is c Failing = refl

shapes_here : (c : ClientState) (h : Happening) → KeyIsWhole h → map shape_of_frame (frames_at c h) ≡ shapes_at (outline c) (blank_happening h)
shapes_here c (Accepted want) whole = ap (λ (x : FrameShape). x ∷ []) (call_shaped c want whole)
shapes_here c (TurnedDown want) whole = refl
shapes_here c (Lacking want) whole = refl
shapes_here c (Reply f) whole = ap (λ (x : Reacted). x.sends) (reply_reacts c f)
shapes_here c Failing whole = refl

shapes_are : (c : ClientState) (hs : List Happening) → AllByRecursion KeyIsWhole hs → map shape_of_frame (frames c hs) ≡ shapes (outline c) (map blank_happening hs)
shapes_are c [] whole = refl
shapes_are c (h ∷ hs) whole =
    map-append shape_of_frame (frames_at c h) (frames (after c h) hs)
    ∙ ap (λ (x : List FrameShape). x ++ map shape_of_frame (frames (after c h) hs)) (shapes_here c h whole.0)
    ∙ ap (λ (x : List FrameShape). shapes_at (outline c) (blank_happening h) ++ x) (shapes_are (after c h) hs whole.1)
    ∙ ap (λ (x : Outline). shapes_at (outline c) (blank_happening h) ++ shapes x (map blank_happening hs)) (outline_is c h)

same_shapes : (c d : ClientState) (hs gs : List Happening) → AllByRecursion KeyIsWhole hs → AllByRecursion KeyIsWhole gs → outline c ≡ outline d →
    map blank_happening hs ≡ map blank_happening gs
    → map shape_of_frame (frames c hs) ≡ map shape_of_frame (frames d gs)
same_shapes c d hs gs whole whole2 alike same =
    shapes_are c hs whole
    ∙ ap (λ (x : Outline). shapes x (map blank_happening hs)) alike
    ∙ ap (λ (x : List BlankHappening). shapes (outline d) x) same
    ∙ sym (shapes_are d gs whole2)

-- ---- refusals

no_reply : Awaited → Bool
no_reply NoReply = true
no_reply _ = false

ready : Option ServerInfo → Option HintName → Bool
ready None hint = false
ready (Some k) None = false
ready (Some k) (Some h) = h.version == k.version

-- why a call is refused, where its record is below the count known
refused : BlankCall → Outline → Option CallFault
refused BlankHello x = if x.failed then Some Failed else (if is_some x.known then Some AlreadyWelcome else (if no_reply x.call then None else Some Busy))
refused BlankAsk x =
    if x.failed then Some Failed
    else (if ready x.known x.hint then (if no_reply x.call then (if nat_lt x.number (2 ^ 62) then None else Some SeedUsedUp) else Some Busy)
    else Some NotReady)
refused _ x = if x.failed then Some Failed else (if is_some x.known then (if no_reply x.call then None else Some Busy) else Some NotReady)

idle_same : (k : Call) → is_idle k ≡ no_reply (awaited k)
unfolding no_reply
idle_same call.Idle = refl
idle_same call.Hello = refl
idle_same (call.Sync s v p) = refl
idle_same (call.Delta since) = refl
idle_same (call.Changes since) = refl
idle_same (call.Ask i v m) = refl
idle_same call.Edit = refl
idle_same call.Append = refl
idle_same call.Publish = refl

ready_same : (known : Option ServerInfo) (hint : Option Hint) → is_ready known hint ≡ ready known (hint_name hint)
unfolding ready
ready_same None hint = refl
ready_same (Some k) None = refl
ready_same (Some k) (Some h) = refl

refused_same : (c : ClientState) (want : ClientCall) → IndexIsBelow want c → call_refusal want c ≡ refused (blank_call want) (outline c)
unfolding refused
refused_same c (Hello key) below = rw (idle_same c.call) refl
refused_same c (Sync scheme) below = rw (idle_same c.call) refl
refused_same c (Ask i) below = rw (lt-ltb i (known_count c.known) below, idle_same c.call, ready_same c.known c.hint) refl
refused_same c (Edit i bytes) below = rw (idle_same c.call) refl
refused_same c (Append bytes) below = rw (idle_same c.call) refl
refused_same c Publish below = rw (idle_same c.call) refl

-- ---- refusals of asks

-- why a client refuses an ask: whether it has failed, is ready and idle, whether the index is below
-- the count known, and whether a number is left
refused_ask : (failed ready idle below left : Bool) → Option CallFault
refused_ask failed ready idle below left =
    if failed then Some Failed
    else (if ready then (if idle then (if below then (if left then None else Some SeedUsedUp) else Some BadIndex) else Some Busy) else Some NotReady)

-- the same of an outline
outlined_ask : Bool → Outline → Option CallFault
outlined_ask below x = refused_ask x.failed (ready x.known x.hint) (no_reply x.call) below (nat_lt x.number (2 ^ 62))

ask_outlined : (c : ClientState) (i : ℕ) → call_refusal (Ask i) c ≡ outlined_ask (nat_lt i (known_count c.known)) (outline c)
unfolding refused_ask outlined_ask
ask_outlined c i = rw (idle_same c.call, ready_same c.known c.hint) refl

-- an ask that is not refused for its index is refused as one of a record below the count
as_below : (failed ready idle below left : Bool) → refused_ask failed ready idle below left ≢ Some BadIndex →
    refused_ask failed ready idle below left ≡ refused_ask failed ready idle true left
unfolding refused_ask
as_below true r n b u h = refl
as_below false false n b u h = refl
as_below false true false b u h = refl
as_below false true true true u h = refl
as_below false true true false u h = absurd (h refl)

ask_below : (c : ClientState) (i : ℕ) → call_refusal (Ask i) c ≢ Some BadIndex → call_refusal (Ask i) c ≡ outlined_ask true (outline c)
unfolding outlined_ask
ask_below c i h =
    ask_outlined c i
    ∙ as_below c.failed (ready c.known (hint_name c.hint)) (no_reply (awaited c.call)) (nat_lt i (known_count c.known)) (nat_lt c.number (2 ^ 62))
    (λ e. h (ask_outlined c i ∙ e))

-- two asks of clients that differ in indices and words alone are refused alike, where the indices
-- are the same or neither is refused for its own
pub same_ask : (c d : ClientState) (i j : ℕ) → outline c ≡ outline d → (j ≢ i → call_refusal (Ask i) c ≢ Some BadIndex) →
    (i ≢ j → call_refusal (Ask j) d ≢ Some BadIndex) → call_refusal (Ask i) c ≡ call_refusal (Ask j) d
same_ask c d i j alike first second = elim (cases_eq i j) [
  | inl same ↦ ask_outlined c i
      ∙ ap (λ (x : Outline). outlined_ask (nat_lt i (known_count x.known)) x) alike
      ∙ ap (λ (n : ℕ). outlined_ask (nat_lt n (known_count d.known)) (outline d)) same
      ∙ sym (ask_outlined d j)
  | inr other ↦ ask_below c i (first (λ e. other (sym e))) ∙ ap (outlined_ask true) alike ∙ sym (ask_below d j (second other))
]

same_refusal : (c d : ClientState) (want other : ClientCall) → IndexIsBelow want c → IndexIsBelow other d → outline c ≡ outline d →
    blank_call want ≡ blank_call other → call_refusal want c ≡ call_refusal other d
same_refusal c d want other below below2 alike same =
    refused_same c want below
    ∙ ap (λ (x : Outline). refused (blank_call want) x) alike
    ∙ ap (λ (x : BlankCall). refused x (outline d)) same
    ∙ sym (refused_same d other below2)

pub no_index : EqualShapes
no_index = record { shapes_are = shapes_are; outline_is = outline_is; same_shapes = same_shapes; same_refusal = same_refusal }
