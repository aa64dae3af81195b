-- What clients of one outline do with calls that differ in the index alone, and with replies that
-- differ in words alone.
use Rattle.std.proofs.Common.{◌≡◌, ℕ, List, [], ◌∷◌, ◌++◌, length, Bool, true, false, cond, Option, Some, None, refl, sym, ap, ◌∙◌, ◌⊎◌, inl, inr}
use Rattle.std.specs.Prelude.{map, ◌==◌, ◌&&◌, not}
use Rattle.std.proofs.lemmas.List.{append-nil}
use Rattle.frame_codec.specs.declared.frame.Frame.{Frame}
use Rattle.frame_codec.specs.declared.frame.Frame.TheVariants as frame
use Rattle.frame_codec.specs.Rows.{RowList}
use Rattle.pir_schemes.specs.declared.plan.Plan.{Plan}
use Rattle.pir_schemes.specs.declared.scheme.Scheme.{Scheme}
use Rattle.pir_schemes.specs.declared.scheme.Scheme.TheVariants.{Simple}
use Rattle.pir_schemes.specs.Schemes.{scheme_byte}
use Rattle.pir_schemes.specs.Retrievals.{hint_len}
use Rattle.client_core.specs.declared.state.ClientState.{ClientState}
use Rattle.client_core.specs.declared.state.ServerInfo.{ServerInfo}
use Rattle.client_core.specs.declared.state.Hint.{Hint}
use Rattle.client_core.specs.declared.state.Call.{Call}
use Rattle.client_core.specs.declared.state.Call.TheVariants as call
use Rattle.digit_pack.specs.Layout.{is_wide}
use Rattle.client_core.specs.States.{is_wide_client, shape_known, known_version, scheme_held, delta_base}
use Rattle.client_core.specs.Calls.{ClientCall, Hello, Sync, Ask, frame_since, sync_frame, state_after_call, call_frame, call_words}
use Rattle.client_core.specs.Replies.{plan_given, AfterReply, reaction_to_reply, is_accepted_welcome, is_part, is_answer, is_current, reaction_to_stale, row_numbers, is_delta, reaction_to_delta, reaction_to_changes, is_changes, reaction_to_no_delta}
use Rattle.client_core.specs.Kinds.{takes_welcome, takes_asked_part, takes_part, answered, takes_answer, takes_stale, takes_delta, takes_changes, takes_no_delta, takes_done, takes_refused}
use Rattle.client_core.specs.Feeding.{sends_of}
use Rattle.client_core.specs.Laws.{Replied as Reply, Accepted}
use Rattle.client_core.specs.Shapes.{
  FrameShape,
  shape_of_frame,
  BlankCall,
  blank_call,
  BlankReply,
  blank_reply,
  BlankTaken,
  APart,
  awaited,
  HintName,
  hint_name,
  Outline,
  outline,
  asked_count,
  named_base,
  outline_after_call,
  after_reply,
}
use Rattle.client_core.proofs.ShapeLaws.{asked_length, no_index, base_named}
use Rattle.pir_world.proofs.ShapesFrames.{IsFrameLike, same_frame, same_blank}

-- ---- calls

-- the same call, or both times an ask
abbrev pub IsCallLike : ClientCall → ClientCall → Type 0
IsCallLike (Ask i) w = (j : ℕ) × (w ≡ Ask j)
IsCallLike v w = w ≡ v

pub same_want : (v w : ClientCall) → IsCallLike v w → blank_call v ≡ blank_call w
same_want (Ask i) w e = ap blank_call (sym e.1)
same_want v w e = ap blank_call (sym e)

pub called_outline : (c d : ClientState) (v w : ClientCall) → outline c ≡ outline d → IsCallLike v w → outline (state_after_call v c) ≡ outline (state_after_call w d)
called_outline c d v w a e =
    no_index.outline_is c (Accepted v)
    ∙ ap (λ (o : Outline). outline_after_call (blank_call v) o) a
    ∙ ap (λ (b : BlankCall). outline_after_call b (outline d)) (same_want v w e)
    ∙ sym (no_index.outline_is d (Accepted w))

-- the scheme of the hint of this name
held : Option HintName → Scheme
held None = Simple
held (Some h) = h.scheme

held_is : (h : Option Hint) → scheme_held h ≡ held (hint_name h)
unfolding held
held_is None = refl
held_is (Some h) = refl

-- the first frame of a sync, in a wide client or another one: by what changed, or by parts
first_frame : Bool → Option ℕ → Scheme → Option ServerInfo → Frame
first_frame true (Some since) s known = frame.ChangesAsk since
first_frame false (Some since) s known = frame.DeltaAsk since
first_frame wide None s known = frame.HintAsk (scheme_byte s) (known_version known) 0

since_frame : (wide : Bool) (since : ℕ) (s : Scheme) (known : Option ServerInfo) → frame_since wide since ≡ first_frame wide (Some since) s known
unfolding first_frame
since_frame true since s known = refl
since_frame false since s known = refl

begun_frame : (base : Option ℕ) (s : Scheme) (c : ClientState) → sync_frame base s c ≡ first_frame (is_wide_client c) base s c.known
unfolding first_frame
begun_frame (Some since) s c = since_frame (is_wide_client c) since s c.known
begun_frame None s c = refl

-- a call that a client of a run makes
abbrev pub IsReaders : ClientCall → Type 0
IsReaders (Hello key) = Unit {0}
IsReaders (Sync scheme) = Unit {0}
IsReaders (Ask i) = Unit {0}
IsReaders _ = ⊥

pub call_frame_like : (c d : ClientState) (v w : ClientCall) → IsReaders v → outline c ≡ outline d → IsCallLike v w
    → IsFrameLike (call_frame v c) (call_frame w d)
call_frame_like c d v w r a e = made v w r e
  where
    known : c.known ≡ d.known
    known = ap (λ (o : Outline). o.known) a

    scheme : scheme_held c.hint ≡ scheme_held d.hint
    scheme = held_is c.hint ∙ ap (λ (o : Outline). held o.hint) a ∙ sym (held_is d.hint)

    bases : (s : Scheme) → delta_base s d.hint ≡ delta_base s c.hint
    bases s = base_named s d.hint ∙ ap (λ (o : Outline). named_base s o.hint) (sym a) ∙ sym (base_named s c.hint)

    counts : asked_count c.known (hint_name c.hint) ≡ asked_count d.known (hint_name d.hint)
    counts = ap (λ (o : Outline). asked_count o.known o.hint) a

    other_words : ℕ → List ℕ
    other_words j = call_words d.known (scheme_held d.hint) d.seed d.number j

    made : (v w : ClientCall) → IsReaders v → IsCallLike v w
        → IsFrameLike (call_frame v c) (call_frame w d)
    made (Hello key) w r e = rw e (ap (λ (o : Outline). frame.Hello o.profile key) (sym a))
    made (Sync s) w r e =
        rw e (same_frame (call_frame (Sync s) c) (call_frame (Sync s) d) (begun_frame (delta_base s d.hint) s d
        ∙ ap (λ (o : Outline). first_frame (is_wide o.profile) (delta_base s d.hint) s d.known) (sym a)
        ∙ ap (λ (b : Option ℕ). first_frame (is_wide_client c) b s d.known) (bases s)
        ∙ ap (λ (k : Option ServerInfo). first_frame (is_wide_client c) (delta_base s c.hint) s k) (sym known)
        ∙ sym (begun_frame (delta_base s c.hint) s c)))
    made (Ask i) w r e = rw e.1 (
      other_words e.0,
      ap (λ (s : Scheme). frame.Query (scheme_byte s) (known_version d.known) (other_words e.0)) (sym scheme)
          ∙ ap (λ (k : Option ServerInfo). frame.Query (scheme_byte (scheme_held c.hint)) (known_version k) (other_words e.0)) (sym known),
      asked_length d.known d.hint d.seed d.number e.0 ∙ sym counts ∙ sym (asked_length c.known c.hint c.seed c.number i),
    )
    made v w r e = absurd r

-- ---- replies

-- the frame sent is the one for the part that is then awaited
abbrev Sends : AfterReply → Type 0
Sends t =
    (sends_of t.reaction ≡ [])
    ⊎ ((s : Scheme) × (v : ℕ) × (p : ℕ) × (t.state.call ≡ call.Sync s v p) × (sends_of t.reaction ≡ frame.HintAsk (scheme_byte s) v p ∷ []))

either : (b : Bool) (t u : AfterReply) → Sends t → Sends u → Sends (cond b t u)
either true t u a b = a
either false t u a b = b

part_sends : (k : Call) (c : ClientState) (scheme version part : ℕ) (words : List ℕ) → Sends (takes_part k c scheme version part words)
part_sends (call.Sync s v p) c scheme version part words = asked c.known
  where
    asked : (known : Option ServerInfo) → Sends (takes_asked_part known s c v p scheme version part words)
    asked None = inl refl
    asked (Some k) =
        either (is_part s (hint_len s (shape_known k) k.plan.dimension) v p scheme version part words) _ _
        (either (length (c.parts ++ words) == hint_len s (shape_known k) k.plan.dimension) _ _ (inl refl) (inr (s, v, _, refl, refl)))
        (inl refl)
part_sends k c scheme version part words = inl refl

welcome_sends : (k : Call) (c : ClientState) (plan : Plan) (count version : ℕ) → Sends (takes_welcome k c plan count version)
welcome_sends call.Hello c plan count version = either (is_accepted_welcome c.profile plan count version) _ _ (inl refl) (inl refl)
welcome_sends k c plan count version = inl refl

answer_sends : (k : Call) (c : ClientState) (scheme version : ℕ) (words : List ℕ) → Sends (takes_answer k c scheme version words)
answer_sends (call.Ask i v n) c scheme version words = asked c.known c.hint
  where
    asked : (known : Option ServerInfo) (hint : Option Hint) → Sends (answered known hint c i v n scheme version words)
    asked None hint = inl refl
    asked (Some k) None = inl refl
    asked (Some k) (Some h) = either (is_answer h.scheme k v scheme version words) _ _ (inl refl) (inl refl)
answer_sends k c scheme version words = inl refl

stale_asked : (known : Option ServerInfo) (dropped c : ClientState) (asked version count : ℕ) → Sends (reaction_to_stale known dropped c asked version count)
stale_asked None dropped c asked version count = inl refl
stale_asked (Some k) dropped c asked version count =
    either (not (version == asked) && is_current k version count) _ _ (inl refl) (inl refl)

stale_sends : (k : Call) (c : ClientState) (version count : ℕ) → Sends (takes_stale k c version count)
stale_sends (call.Sync s v p) c version count = stale_asked c.known (record c { parts = [] }) c v version count
stale_sends (call.Ask i v n) c version count = stale_asked c.known c c v version count
stale_sends k c version count = inl refl

moved_sends : (known : Option ServerInfo) (hint : Option Hint) (c : ClientState) (asked since now count : ℕ) (rows : RowList) →
    Sends (reaction_to_delta known hint c asked since now count rows)
moved_sends None hint c asked since now count rows = inl refl
moved_sends (Some k) None c asked since now count rows = inl refl
moved_sends (Some k) (Some h) c asked since now count rows =
    either (is_delta k asked since now count rows.dimension (row_numbers rows)) _ _ (inl refl) (inl refl)

delta_sends : (k : Call) (c : ClientState) (since now count : ℕ) (rows : RowList) → Sends (takes_delta k c since now count rows)
delta_sends (call.Delta asked) c since now count rows = moved_sends c.known c.hint c asked since now count rows
delta_sends k c since now count rows = inl refl

changed_sends : (known : Option ServerInfo) (hint : Option Hint) (c : ClientState) (asked since now count : ℕ) (entries : List ℕ) →
    Sends (reaction_to_changes known hint c asked since now count entries)
changed_sends None hint c asked since now count entries = inl refl
changed_sends (Some k) None c asked since now count entries = inl refl
changed_sends (Some k) (Some h) c asked since now count entries = either (is_changes k asked since now count entries) _ _ (inl refl) (inl refl)

changes_sends : (k : Call) (c : ClientState) (since now count : ℕ) (entries : List ℕ) → Sends (takes_changes k c since now count entries)
changes_sends (call.Changes asked) c since now count entries = changed_sends c.known c.hint c asked since now count entries
changes_sends k c since now count entries = inl refl

by_parts_sends : (known : Option ServerInfo) (c : ClientState) (version count : ℕ) → Sends (reaction_to_no_delta known c version count)
by_parts_sends None c version count = inl refl
by_parts_sends (Some k) c version count = either (is_current k version count) _ _ (inr (Simple, version, 0, refl, refl)) (inl refl)

no_delta_sends : (k : Call) (c : ClientState) (version count : ℕ) → Sends (takes_no_delta k c version count)
no_delta_sends (call.Delta asked) c version count = by_parts_sends c.known c version count
no_delta_sends (call.Changes asked) c version count = by_parts_sends c.known c version count
no_delta_sends k c version count = inl refl

done_sends : (k : Call) (c : ClientState) (version : ℕ) → Sends (takes_done k c version)
done_sends call.Idle c version = inl refl
done_sends call.Edit c version = inl refl
done_sends call.Append c version = inl refl
done_sends call.Publish c version = inl refl
done_sends k c version = inl refl

refused_sends : (k : Call) (c : ClientState) (code : ℕ) → Sends (takes_refused k c code)
refused_sends call.Idle c code = inl refl
refused_sends (call.Sync s v p) c code = inl refl
refused_sends k c code = inl refl

reply_sends : (c : ClientState) (f : Frame) → Sends (reaction_to_reply c f)
reply_sends c (frame.Welcome profile width record_len groups count version dimension seed) =
    welcome_sends c.call c (plan_given profile width record_len groups dimension seed) count version
reply_sends c (frame.HintPart scheme version part words) = part_sends c.call c scheme version part words
reply_sends c (frame.Answer scheme version words) = answer_sends c.call c scheme version words
reply_sends c (frame.Stale version count) = stale_sends c.call c version count
reply_sends c (frame.Delta since now count rows) = delta_sends c.call c since now count rows
reply_sends c (frame.Changes since now count entries) = changes_sends c.call c since now count entries
reply_sends c (frame.NoDelta version count) = no_delta_sends c.call c version count
reply_sends c (frame.Done version) = done_sends c.call c version
reply_sends c (frame.Refused code) = refused_sends c.call c code
reply_sends c f = inl refl

pub replied_outline : (c d : ClientState) (f g : Frame) → outline c ≡ outline d → IsFrameLike f g
    → outline (reaction_to_reply c f).state ≡ outline (reaction_to_reply d g).state
replied_outline c d f g a e =
    no_index.outline_is c (Reply f)
    ∙ ap (λ (o : Outline). (after_reply o (blank_reply f)).outline) a
    ∙ ap (λ (b : BlankReply). (after_reply (outline d) b).outline) (same_blank f g e)
    ∙ sym (no_index.outline_is d (Reply g))

replied_shapes : (c d : ClientState) (f g : Frame) → outline c ≡ outline d → IsFrameLike f g
    → map shape_of_frame (sends_of (reaction_to_reply c f).reaction) ≡ map shape_of_frame (sends_of (reaction_to_reply d g).reaction)
replied_shapes c d f g a e =
    ap (map shape_of_frame) (sym (append-nil (sends_of (reaction_to_reply c f).reaction)))
    ∙ no_index.same_shapes c d (Reply f ∷ []) (Reply g ∷ []) (tt, tt) (tt, tt) a (ap (λ (b : BlankReply). BlankTaken b ∷ []) (same_blank f g e))
    ∙ ap (map shape_of_frame) (append-nil (sends_of (reaction_to_reply d g).reaction))

same_part : (s t : Scheme) (v w p q : ℕ) → APart s v p ≡ APart t w q → frame.HintAsk (scheme_byte s) v p ≡ frame.HintAsk (scheme_byte t) w q
same_part s t v w p q e = let a : s ≡ t = cc in let b : v ≡ w = cc in let d : p ≡ q = cc in cc

-- they send the same frame, or none
pub replied_sends : (c d : ClientState) (f g : Frame) → outline c ≡ outline d → IsFrameLike f g
    → sends_of (reaction_to_reply c f).reaction ≡ sends_of (reaction_to_reply d g).reaction
replied_sends c d f g a e = both (reply_sends c f) (reply_sends d g)
  where
    both : Sends (reaction_to_reply c f) → Sends (reaction_to_reply d g) → sends_of (reaction_to_reply c f).reaction ≡ sends_of (reaction_to_reply d g).reaction
    both (inl p) (inl q) = p ∙ sym q
    both (inl p) (inr q) =
        let z : ◌≡◌ {A = List FrameShape} [] (shape_of_frame (frame.HintAsk (scheme_byte q.0) q.1 q.2) ∷ []) =
        ap (map shape_of_frame) (sym p) ∙ replied_shapes c d f g a e ∙ ap (map shape_of_frame) q.4 in
        absurd cc
    both (inr p) (inl q) =
        let z : ◌≡◌ {A = List FrameShape} (shape_of_frame (frame.HintAsk (scheme_byte p.0) p.1 p.2) ∷ []) [] =
        ap (map shape_of_frame) (sym p.4) ∙ replied_shapes c d f g a e ∙ ap (map shape_of_frame) q in
        absurd cc
    both (inr p) (inr q) =
        let z : APart p.0 p.1 p.2 ≡ APart q.0 q.1 q.2 = ap awaited (sym p.3) ∙ ap (λ (o : Outline). o.call) (replied_outline c d f g a e) ∙ ap awaited q.3 in
        p.4 ∙ ap (λ (y : Frame). y ∷ []) (same_part p.0 q.0 p.1 q.1 p.2 q.2 z) ∙ sym q.4
