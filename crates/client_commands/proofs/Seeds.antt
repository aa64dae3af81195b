-- Nothing that happens to a client changes its seed, or takes a number back.
use Rattle.std.proofs.Common.{◌≡◌, ◌≤◌, ◌++◌, ℕ, Bool, true, false, cond, List, [], ◌∷◌, Option, Some, None, refl, sym, ap, ◌∙◌, inl, inr, arith}
use Rattle.std.specs.Prelude.{MatchBool, is_some, ◌⊎◌}
use Rattle.frame_codec.specs.declared.frame.Frame.{Frame}
use Rattle.frame_codec.specs.declared.frame.Frame.TheVariants as frame
use Rattle.frame_codec.specs.Rows.{RowList}
use Rattle.pir_schemes.specs.declared.plan.Plan.{Plan}
use Rattle.pir_schemes.specs.declared.scheme.Scheme.{Scheme}
use Rattle.client_core.specs.declared.state.ClientState.{ClientState}
use Rattle.client_core.specs.declared.state.ServerInfo.{ServerInfo}
use Rattle.client_core.specs.declared.state.Hint.{Hint}
use Rattle.client_core.specs.declared.state.Call.{Call}
use Rattle.client_core.specs.declared.state.Call.TheVariants as call
use Rattle.client_core.specs.declared.state.ClientFault.{ClientFault}
use Rattle.client_core.specs.declared.state.Event.{Event}
use Rattle.client_core.specs.States.{delta_base}
use Rattle.client_core.specs.Feeding.{Client, Course, start, course_after_reply, course_more, runs, takes_all, failing, ends_with, codec_fault, Follows, BreaksOff, FeedsOpen, FeedsFailed, FeedsClient}
use Rattle.client_core.specs.Calls.{ClientCall, Hello, Sync, Ask, Edit, Append, Publish, sync_begun}
use Rattle.client_core.specs.Replies.{AfterReply, plan_given, reaction_to_reply, reaction_to_part, reaction_to_stale, reaction_to_delta, reaction_to_changes, reaction_to_no_delta}
use Rattle.client_core.specs.Kinds.{takes_welcome, takes_asked_part, takes_part, answered, takes_answer, takes_stale, takes_delta, takes_changes, takes_no_delta, takes_done, takes_refused}
use Rattle.client_core.specs.Laws.{Happening, Accepted, TurnedDown, Lacking, Replied as Reply, Failing, after}
use Rattle.client_core.proofs.NumberLaws.{takes_number, sync_number}

-- ---- a reply

either : (s : List ℕ) (b : Bool) (x y : AfterReply) → x.state.seed ≡ s → y.state.seed ≡ s → (cond b x y).state.seed ≡ s
either s true x y p q = p
either s false x y p q = q

welcome_seed : (k : Call) (c : ClientState) (plan : Plan) (count version : ℕ) → (takes_welcome k c plan count version).state.seed ≡ c.seed
welcome_seed call.Hello c plan count version = either c.seed _ _ _ refl refl
welcome_seed _ c plan count version = refl

asked_part_seed : (known : Option ServerInfo) (s : Scheme) (c : ClientState) (v p scheme version part : ℕ) (words : List ℕ) →
    (takes_asked_part known s c v p scheme version part words).state.seed ≡ c.seed
asked_part_seed None s c v p scheme version part words = refl
asked_part_seed (Some k) s c v p scheme version part words =
    either c.seed _ (reaction_to_part s k c v p (c.parts ++ words)) _ (either c.seed _ _ _ refl refl) refl

part_seed : (k : Call) (c : ClientState) (scheme version part : ℕ) (words : List ℕ) → (takes_part k c scheme version part words).state.seed ≡ c.seed
part_seed (call.Sync s v p) c scheme version part words = asked_part_seed c.known s c v p scheme version part words
part_seed _ c scheme version part words = refl

answered_seed : (known : Option ServerInfo) (hint : Option Hint) (c : ClientState) (i v m scheme version : ℕ) (words : List ℕ) →
    (answered known hint c i v m scheme version words).state.seed ≡ c.seed
answered_seed None hint c i v m scheme version words = refl
answered_seed (Some k) None c i v m scheme version words = refl
answered_seed (Some k) (Some h) c i v m scheme version words = either c.seed _ _ _ refl refl

answer_seed : (k : Call) (c : ClientState) (scheme version : ℕ) (words : List ℕ) → (takes_answer k c scheme version words).state.seed ≡ c.seed
answer_seed (call.Ask i v m) c scheme version words = answered_seed c.known c.hint c i v m scheme version words
answer_seed _ c scheme version words = refl

staled_seed : (known : Option ServerInfo) (later c : ClientState) (asked version count : ℕ) → later.seed ≡ c.seed →
    (reaction_to_stale known later c asked version count).state.seed ≡ c.seed
staled_seed None later c asked version count e = refl
staled_seed (Some k) later c asked version count e = either c.seed _ _ _ e refl

stale_seed : (k : Call) (c : ClientState) (version count : ℕ) → (takes_stale k c version count).state.seed ≡ c.seed
stale_seed (call.Sync s v p) c version count = staled_seed c.known (record c { parts = [] }) c v version count refl
stale_seed (call.Ask i v m) c version count = staled_seed c.known c c v version count refl
stale_seed _ c version count = refl

moved_seed : (known : Option ServerInfo) (hint : Option Hint) (c : ClientState) (asked since now count : ℕ) (rows : RowList) →
    (reaction_to_delta known hint c asked since now count rows).state.seed ≡ c.seed
moved_seed None hint c asked since now count rows = refl
moved_seed (Some k) None c asked since now count rows = refl
moved_seed (Some k) (Some h) c asked since now count rows = either c.seed _ _ _ refl refl

delta_seed : (k : Call) (c : ClientState) (since now count : ℕ) (rows : RowList) → (takes_delta k c since now count rows).state.seed ≡ c.seed
delta_seed (call.Delta asked) c since now count rows = moved_seed c.known c.hint c asked since now count rows
delta_seed _ c since now count rows = refl

changed_seed : (known : Option ServerInfo) (hint : Option Hint) (c : ClientState) (asked since now count : ℕ) (entries : List ℕ) →
    (reaction_to_changes known hint c asked since now count entries).state.seed ≡ c.seed
changed_seed None hint c asked since now count entries = refl
changed_seed (Some k) None c asked since now count entries = refl
changed_seed (Some k) (Some h) c asked since now count entries = either c.seed _ _ _ refl refl

changes_seed : (k : Call) (c : ClientState) (since now count : ℕ) (entries : List ℕ) → (takes_changes k c since now count entries).state.seed ≡ c.seed
changes_seed (call.Changes asked) c since now count entries = changed_seed c.known c.hint c asked since now count entries
changes_seed _ c since now count entries = refl

by_parts_seed : (known : Option ServerInfo) (c : ClientState) (version count : ℕ) → (reaction_to_no_delta known c version count).state.seed ≡ c.seed
by_parts_seed None c version count = refl
by_parts_seed (Some k) c version count = either c.seed _ _ _ refl refl

no_delta_seed : (k : Call) (c : ClientState) (version count : ℕ) → (takes_no_delta k c version count).state.seed ≡ c.seed
no_delta_seed (call.Delta asked) c version count = by_parts_seed c.known c version count
no_delta_seed (call.Changes asked) c version count = by_parts_seed c.known c version count
no_delta_seed _ c version count = refl

done_seed : (k : Call) (c : ClientState) (version : ℕ) → (takes_done k c version).state.seed ≡ c.seed
done_seed call.Edit c version = refl
done_seed call.Append c version = refl
done_seed call.Publish c version = refl
done_seed _ c version = refl

refused_seed : (k : Call) (c : ClientState) (code : ℕ) → (takes_refused k c code).state.seed ≡ c.seed
refused_seed call.Idle c code = refl
refused_seed (call.Sync s v p) c code = refl
refused_seed _ c code = refl

takes_seed : (c : ClientState) (f : Frame) → (reaction_to_reply c f).state.seed ≡ c.seed
takes_seed c (frame.Welcome profile width record_len groups count version dimension seed) =
    welcome_seed c.call c (plan_given profile width record_len groups dimension seed) count version
takes_seed c (frame.HintPart scheme version part words) = part_seed c.call c scheme version part words
takes_seed c (frame.Answer scheme version words) = answer_seed c.call c scheme version words
takes_seed c (frame.Stale version count) = stale_seed c.call c version count
takes_seed c (frame.Delta since now count rows) = delta_seed c.call c since now count rows
takes_seed c (frame.Changes since now count entries) = changes_seed c.call c since now count entries
takes_seed c (frame.NoDelta version count) = no_delta_seed c.call c version count
takes_seed c (frame.Done version) = done_seed c.call c version
takes_seed c (frame.Refused code) = refused_seed c.call c code
takes_seed c _ = refl

-- ---- anything that happens

sync_seed : (base : Option ℕ) (s : Scheme) (c : ClientState) → (sync_begun base s c).seed ≡ c.seed
sync_seed None s c = refl
sync_seed (Some since) s c = refl

-- the seed is the same, and the next number no smaller
pub record GoesOn (c d : ClientState) : Type 0 where
  pub seed : d.seed ≡ c.seed
  pub number : c.number ≤ d.number

pub same_client : (c : ClientState) → GoesOn c c
same_client c = record { seed = refl; number = omega arith }

accepted_goes_on : (c : ClientState) (want : ClientCall) → GoesOn c (after c (Accepted want))
accepted_goes_on c (Sync scheme) = record {
  seed = sync_seed (delta_base scheme c.hint) scheme c;
  number = omega (arith, sync_number (delta_base scheme c.hint) scheme c);
}
accepted_goes_on c (Ask i) = record { seed = refl; number = omega arith }
accepted_goes_on c (Hello key) = record { seed = refl; number = omega arith }
accepted_goes_on c (Edit i bytes) = record { seed = refl; number = omega arith }
accepted_goes_on c (Append bytes) = record { seed = refl; number = omega arith }
accepted_goes_on c Publish = record { seed = refl; number = omega arith }

lacking_goes_on : (c : ClientState) (want : ClientCall) → GoesOn c (after c (Lacking want))
lacking_goes_on c (Ask i) = record { seed = refl; number = omega arith }
lacking_goes_on c (Sync scheme) = same_client c
lacking_goes_on c (Hello key) = same_client c
lacking_goes_on c (Edit i bytes) = same_client c
lacking_goes_on c (Append bytes) = same_client c
lacking_goes_on c Publish = same_client c

pub goes_on : (c : ClientState) (h : Happening) → GoesOn c (after c h)
goes_on c (Accepted want) = accepted_goes_on c want
goes_on c (TurnedDown want) = same_client c
goes_on c (Lacking want) = lacking_goes_on c want
goes_on c (Reply f) = record { seed = takes_seed c f; number = omega (arith, takes_number c f) }
goes_on c Failing = record { seed = refl; number = omega arith }

-- ---- a piece

failing_seed : (k : Course) (o : Option ClientFault) → (failing k o).state.seed ≡ k.state.seed
failing_seed k None = refl
failing_seed k (Some f) = by (is_some k.fault)
  where
    by : (b : Bool) → (cond b k (record k { state = record k.state { failed = true }; fault = Some f })).state.seed ≡ k.state.seed
    by true = refl
    by false = refl

runs_seed : (k : Course) (fs : List Frame) → (runs k fs).state.seed ≡ k.state.seed
runs_seed k [] = refl
runs_seed k (f ∷ fs) = runs_seed (course_more k f) fs ∙ more (is_some k.fault)
  where
    more : (b : Bool) → (cond b k (course_after_reply k (reaction_to_reply k.state f))).state.seed ≡ k.state.seed
    more true = refl
    more false = takes_seed k.state f

open_seed : (old new : Client) (piece out : List ℕ) (events : List Event) (fault : Option ClientFault) → FeedsOpen old piece out events fault new →
    new.state.failed ≡ false → new.state.seed ≡ old.state.seed
open_seed old new piece out events fault f alive = by f.takes
  where
    by : (Follows (ends_with (takes_all old.state f.frames) f.answer) out events fault new.state ⊎ BreaksOff old.state f.frames out events fault new.state) →
        new.state.seed ≡ old.state.seed
    by (inl w) =
        ap (λ (x : ClientState). x.seed) w.state
        ∙ failing_seed (takes_all old.state f.frames) (codec_fault f.answer)
        ∙ runs_seed (start old.state) f.frames
    by (inr b) = absurd (let bad : true ≡ false = sym b.failed ∙ alive in cc)

-- what a client is fed leaves its seed as it is, unless the client fails
pub feeding_keeps_seed : (old new : Client) (piece out : List ℕ) (events : List Event) (fault : Option ClientFault) →
    FeedsClient old piece out events fault new → new.state.failed ≡ false → new.state.seed ≡ old.state.seed
feeding_keeps_seed old new piece out events fault = by old.state.failed
  where
    by : (b : Bool) → MatchBool b (FeedsFailed old out events fault new) (FeedsOpen old piece out events fault new) → new.state.failed ≡ false →
        new.state.seed ≡ old.state.seed
    by true f alive = ap (λ (x : Client). x.state.seed) f.same
    by false f alive = open_seed old new piece out events fault f alive
