-- Where no sync is outstanding, no reply changes the hint.
use Rattle.std.proofs.Common.{◌≡◌, ℕ, Bool, true, false, cond, List, [], ◌∷◌, Option, Some, None, refl, sym, ap, ◌∙◌, inl, inr}
use Rattle.std.specs.Prelude.{MatchBool, is_some, ◌⊎◌}
use Rattle.frame_codec.specs.declared.frame.Frame.{Frame}
use Rattle.frame_codec.specs.declared.frame.Frame.TheVariants as frame
use Rattle.frame_codec.specs.Rows.{RowList}
use Rattle.pir_schemes.specs.declared.plan.Plan.{Plan}
use Rattle.client_core.specs.declared.state.ClientState.{ClientState}
use Rattle.client_core.specs.declared.state.ServerInfo.{ServerInfo}
use Rattle.client_core.specs.declared.state.Hint.{Hint}
use Rattle.client_core.specs.declared.state.Call.{Call}
use Rattle.client_core.specs.declared.state.Call.TheVariants.{Idle, Hello, Sync, Delta, Changes, Ask, Edit, Append, Publish}
use Rattle.client_core.specs.declared.state.Event.{Event}
use Rattle.client_core.specs.declared.state.ClientFault.{ClientFault}
use Rattle.client_core.specs.Replies.{AfterReply, reaction_to_reply, plan_given, reaction_to_stale}
use Rattle.client_core.specs.Kinds.{takes_welcome, takes_part, answered, takes_answer, takes_stale, takes_delta, takes_changes, takes_no_delta, takes_done, takes_refused}
use Rattle.client_core.specs.Feeding.{Client, Course, start, course_after_reply, course_more, runs, takes_all, failing, ends_with, codec_fault, Follows, BreaksOff, FeedsOpen, FeedsFailed}
use Rattle.client_core.specs.Endings.{IsNoSync, OnlySyncsChangeTheHint}

-- the hint stays, and again no sync is outstanding
record Stays (c d : ClientState) : Type 0 where
  hint : d.hint ≡ c.hint
  calm : IsNoSync d.call

as_it_was : (c : ClientState) → IsNoSync c.call → Stays c c
as_it_was c calm = record { hint = refl; calm = calm }

failed_stays : (c : ClientState) → IsNoSync c.call → Stays c (record c { failed = true })
failed_stays c calm = record { hint = refl; calm = calm }

ended_stays : (c d : ClientState) → d.hint ≡ c.hint → Stays c (record d { call = Idle })
ended_stays c d e = record { hint = e; calm = tt }

either : (c : ClientState) (b : Bool) (x y : AfterReply) → Stays c x.state → Stays c y.state → Stays c (cond b x y).state
either c true x y p q = p
either c false x y p q = q

welcome_stays : (k : Call) (c : ClientState) (plan : Plan) (count version : ℕ) → IsNoSync k → IsNoSync c.call →
    Stays c (takes_welcome k c plan count version).state
welcome_stays Idle c plan count version a calm = failed_stays c calm
welcome_stays Hello c plan count version a calm =
    either c _ _ _ (ended_stays c (record c { known = Some (record { version = version; count = count; plan = plan }) }) refl) (failed_stays c calm)
welcome_stays (Sync s v p) c plan count version a calm = absurd a
welcome_stays (Delta since) c plan count version a calm = absurd a
welcome_stays (Changes since) c plan count version a calm = absurd a
welcome_stays (Ask i v m) c plan count version a calm = failed_stays c calm
welcome_stays Edit c plan count version a calm = failed_stays c calm
welcome_stays Append c plan count version a calm = failed_stays c calm
welcome_stays Publish c plan count version a calm = failed_stays c calm

part_stays : (k : Call) (c : ClientState) (scheme version part : ℕ) (words : List ℕ) → IsNoSync k → IsNoSync c.call →
    Stays c (takes_part k c scheme version part words).state
part_stays Idle c scheme version part words a calm = failed_stays c calm
part_stays Hello c scheme version part words a calm = failed_stays c calm
part_stays (Sync s v p) c scheme version part words a calm = absurd a
part_stays (Delta since) c scheme version part words a calm = absurd a
part_stays (Changes since) c scheme version part words a calm = absurd a
part_stays (Ask i v m) c scheme version part words a calm = failed_stays c calm
part_stays Edit c scheme version part words a calm = failed_stays c calm
part_stays Append c scheme version part words a calm = failed_stays c calm
part_stays Publish c scheme version part words a calm = failed_stays c calm

answered_stays : (known : Option ServerInfo) (hint : Option Hint) (c : ClientState) (i v m scheme version : ℕ) (words : List ℕ) → IsNoSync c.call →
    Stays c (answered known hint c i v m scheme version words).state
answered_stays None hint c i v m scheme version words calm = failed_stays c calm
answered_stays (Some k) None c i v m scheme version words calm = failed_stays c calm
answered_stays (Some k) (Some h) c i v m scheme version words calm = either c _ _ _ (ended_stays c c refl) (failed_stays c calm)

answer_stays : (k : Call) (c : ClientState) (scheme version : ℕ) (words : List ℕ) → IsNoSync k → IsNoSync c.call →
    Stays c (takes_answer k c scheme version words).state
answer_stays Idle c scheme version words a calm = failed_stays c calm
answer_stays Hello c scheme version words a calm = failed_stays c calm
answer_stays (Sync s v p) c scheme version words a calm = absurd a
answer_stays (Delta since) c scheme version words a calm = absurd a
answer_stays (Changes since) c scheme version words a calm = absurd a
answer_stays (Ask i v m) c scheme version words a calm = answered_stays c.known c.hint c i v m scheme version words calm
answer_stays Edit c scheme version words a calm = failed_stays c calm
answer_stays Append c scheme version words a calm = failed_stays c calm
answer_stays Publish c scheme version words a calm = failed_stays c calm

staled_stays : (known : Option ServerInfo) (c : ClientState) (asked version count : ℕ) → IsNoSync c.call →
    Stays c (reaction_to_stale known c c asked version count).state
staled_stays None c asked version count calm = failed_stays c calm
staled_stays (Some k) c asked version count calm = either c _ _ _ (ended_stays c (record c { known = Some _ }) refl) (failed_stays c calm)

stale_stays : (k : Call) (c : ClientState) (version count : ℕ) → IsNoSync k → IsNoSync c.call → Stays c (takes_stale k c version count).state
stale_stays Idle c version count a calm = failed_stays c calm
stale_stays Hello c version count a calm = failed_stays c calm
stale_stays (Sync s v p) c version count a calm = absurd a
stale_stays (Delta since) c version count a calm = absurd a
stale_stays (Changes since) c version count a calm = absurd a
stale_stays (Ask i v m) c version count a calm = staled_stays c.known c v version count calm
stale_stays Edit c version count a calm = failed_stays c calm
stale_stays Append c version count a calm = failed_stays c calm
stale_stays Publish c version count a calm = failed_stays c calm

delta_stays : (k : Call) (c : ClientState) (since now count : ℕ) (rows : RowList) → IsNoSync k → IsNoSync c.call →
    Stays c (takes_delta k c since now count rows).state
delta_stays Idle c since now count rows a calm = failed_stays c calm
delta_stays Hello c since now count rows a calm = failed_stays c calm
delta_stays (Sync s v p) c since now count rows a calm = absurd a
delta_stays (Delta asked) c since now count rows a calm = absurd a
delta_stays (Changes asked) c since now count rows a calm = absurd a
delta_stays (Ask i v m) c since now count rows a calm = failed_stays c calm
delta_stays Edit c since now count rows a calm = failed_stays c calm
delta_stays Append c since now count rows a calm = failed_stays c calm
delta_stays Publish c since now count rows a calm = failed_stays c calm

changes_stay : (k : Call) (c : ClientState) (since now count : ℕ) (entries : List ℕ) → IsNoSync k → IsNoSync c.call →
    Stays c (takes_changes k c since now count entries).state
changes_stay Idle c since now count entries a calm = failed_stays c calm
changes_stay Hello c since now count entries a calm = failed_stays c calm
changes_stay (Sync s v p) c since now count entries a calm = absurd a
changes_stay (Delta asked) c since now count entries a calm = absurd a
changes_stay (Changes asked) c since now count entries a calm = absurd a
changes_stay (Ask i v m) c since now count entries a calm = failed_stays c calm
changes_stay Edit c since now count entries a calm = failed_stays c calm
changes_stay Append c since now count entries a calm = failed_stays c calm
changes_stay Publish c since now count entries a calm = failed_stays c calm

no_delta_stays : (k : Call) (c : ClientState) (version count : ℕ) → IsNoSync k → IsNoSync c.call → Stays c (takes_no_delta k c version count).state
no_delta_stays Idle c version count a calm = failed_stays c calm
no_delta_stays Hello c version count a calm = failed_stays c calm
no_delta_stays (Sync s v p) c version count a calm = absurd a
no_delta_stays (Delta asked) c version count a calm = absurd a
no_delta_stays (Changes asked) c version count a calm = absurd a
no_delta_stays (Ask i v m) c version count a calm = failed_stays c calm
no_delta_stays Edit c version count a calm = failed_stays c calm
no_delta_stays Append c version count a calm = failed_stays c calm
no_delta_stays Publish c version count a calm = failed_stays c calm

done_stays : (k : Call) (c : ClientState) (version : ℕ) → IsNoSync k → IsNoSync c.call → Stays c (takes_done k c version).state
done_stays Idle c version a calm = failed_stays c calm
done_stays Hello c version a calm = failed_stays c calm
done_stays (Sync s v p) c version a calm = absurd a
done_stays (Delta since) c version a calm = absurd a
done_stays (Changes since) c version a calm = absurd a
done_stays (Ask i v m) c version a calm = failed_stays c calm
done_stays Edit c version a calm = ended_stays c c refl
done_stays Append c version a calm = ended_stays c c refl
done_stays Publish c version a calm = ended_stays c c refl

refused_stays : (k : Call) (c : ClientState) (code : ℕ) → IsNoSync k → IsNoSync c.call → Stays c (takes_refused k c code).state
refused_stays Idle c code a calm = failed_stays c calm
refused_stays Hello c code a calm = ended_stays c c refl
refused_stays (Sync s v p) c code a calm = absurd a
refused_stays (Delta since) c code a calm = absurd a
refused_stays (Changes since) c code a calm = absurd a
refused_stays (Ask i v m) c code a calm = ended_stays c c refl
refused_stays Edit c code a calm = ended_stays c c refl
refused_stays Append c code a calm = ended_stays c c refl
refused_stays Publish c code a calm = ended_stays c c refl

takes_stays : (c : ClientState) (f : Frame) → IsNoSync c.call → Stays c (reaction_to_reply c f).state
takes_stays c (frame.Welcome profile width record_len groups count version dimension seed) calm =
    welcome_stays c.call c (plan_given profile width record_len groups dimension seed) count version calm calm
takes_stays c (frame.HintPart scheme version part words) calm = part_stays c.call c scheme version part words calm calm
takes_stays c (frame.Answer scheme version words) calm = answer_stays c.call c scheme version words calm calm
takes_stays c (frame.Stale version count) calm = stale_stays c.call c version count calm calm
takes_stays c (frame.Delta since now count rows) calm = delta_stays c.call c since now count rows calm calm
takes_stays c (frame.Changes since now count entries) calm = changes_stay c.call c since now count entries calm calm
takes_stays c (frame.NoDelta version count) calm = no_delta_stays c.call c version count calm calm
takes_stays c (frame.Done version) calm = done_stays c.call c version calm calm
takes_stays c (frame.Refused code) calm = refused_stays c.call c code calm calm
takes_stays c _ calm = failed_stays c calm

-- ---- a piece

both_stay : (a b c : ClientState) → Stays a b → Stays b c → Stays a c
both_stay a b c p q = record { hint = q.hint ∙ p.hint; calm = q.calm }

runs_stay : (k : Course) (fs : List Frame) → IsNoSync k.state.call → Stays k.state (runs k fs).state
runs_stay k [] calm = as_it_was k.state calm
runs_stay k (f ∷ fs) calm =
    let one : Stays k.state (course_more k f).state = more (is_some k.fault) in
    both_stay k.state (course_more k f).state (runs (course_more k f) fs).state one (runs_stay (course_more k f) fs one.calm)
  where
    more : (b : Bool) → Stays k.state (cond b k (course_after_reply k (reaction_to_reply k.state f))).state
    more true = as_it_was k.state calm
    more false = takes_stays k.state f calm

failing_hint : (k : Course) (o : Option ClientFault) → (failing k o).state.hint ≡ k.state.hint
failing_hint k None = refl
failing_hint k (Some f) = by (is_some k.fault)
  where
    by : (b : Bool) → (cond b k (record k { state = record k.state { failed = true }; fault = Some f })).state.hint ≡ k.state.hint
    by true = refl
    by false = refl

open_hint : (old new : Client) (piece out : List ℕ) (events : List Event) (fault : Option ClientFault) → FeedsOpen old piece out events fault new →
    IsNoSync old.state.call → new.state.failed ≡ false → new.state.hint ≡ old.state.hint
open_hint old new piece out events fault f calm alive = by f.takes
  where
    by : (Follows (ends_with (takes_all old.state f.frames) f.answer) out events fault new.state ⊎ BreaksOff old.state f.frames out events fault new.state) →
        new.state.hint ≡ old.state.hint
    by (inl w) =
        ap (λ (x : ClientState). x.hint) w.state
        ∙ failing_hint (takes_all old.state f.frames) (codec_fault f.answer)
        ∙ (runs_stay (start old.state) f.frames calm).hint
    by (inr b) = absurd (let bad : true ≡ false = sym b.failed ∙ alive in cc)

pub only_syncs_change_the_hint : OnlySyncsChangeTheHint
only_syncs_change_the_hint old new piece out events fault = by old.state.failed
  where
    by : (b : Bool) → MatchBool b (FeedsFailed old out events fault new) (FeedsOpen old piece out events fault new) → IsNoSync old.state.call →
        new.state.failed ≡ false → new.state.hint ≡ old.state.hint
    by true f calm alive = ap (λ (x : Client). x.state.hint) f.same
    by false f calm alive = open_hint old new piece out events fault f calm alive
