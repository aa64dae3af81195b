-- Frames on their way have the kinds that the database's streams have.
use Rattle.std.proofs.Common.{◌≡◌, ℕ, Bool, true, false, List, [], ◌∷◌, Option, Some, None, refl, sym, ap, ◌∙◌, inl, inr}
use Rattle.std.specs.Prelude.{◌==◌, ◌&&◌, ◌||◌, if◌then◌else◌, is_some, option_to_list, fold}
use Rattle.std.specs.List.{AllByRecursion}
use Rattle.std.proofs.lemmas.Bool.{cases_Bool, eqb-true, or_cases}
use Rattle.digit_pack.specs.Layout.{is_wide}
use Rattle.pir_schemes.specs.declared.plan.Plan.{Plan}
use Rattle.pir_schemes.specs.declared.scheme.Scheme.{Scheme}
use Rattle.pir_schemes.specs.Plans.{accepts_profile}
use Rattle.frame_codec.specs.declared.frame.Frame.{Frame}
use Rattle.frame_codec.specs.Frames.{IsFrame, kind_of}
use Rattle.frame_codec.specs.Streams.{IsFrameOf, is_kind}
use Rattle.frame_codec.proofs.Runs.{all_append}
use Rattle.version_store.specs.Histories.{History}
use Rattle.server_core.specs.declared.standing.Standing.{Standing}
use Rattle.server_core.specs.Serving.{Setting, is_closed, is_wide_setting, takes_memory}
use Rattle.server_core.specs.Laws.{HasKnownKind}
use Rattle.server_core.proofs.ReplyKinds.{replies_known}
use Rattle.client_core.specs.declared.state.ClientState.{ClientState}
use Rattle.client_core.specs.declared.state.Reaction.{Reaction}
use Rattle.client_core.specs.declared.state.Reaction.TheVariants.{Asks, Reports, Fails}
use Rattle.client_core.specs.States.{is_wide_client, delta_base}
use Rattle.client_core.specs.Calls.{ClientCall, Hello, Sync, Ask, Edit, Append, Publish, call_frame, frame_since, sync_frame}
use Rattle.client_core.specs.Replies.{reaction_to_reply}
use Rattle.client_core.specs.Feeding.{Course, runs, course_more, takes_all, start, sends_of}
use Rattle.pir_world.specs.Runs.{ClientLink, FramesServed, served_or, with_frame_served, arrived}
use Rattle.pir_world.proofs.Links.{turn_of}

-- a frame of a kind that a stream has
abbrev pub Known : Bool → Frame → Type 0
Known wide f = is_kind wide (kind_of f) ≡ true

-- frames of such kinds may stand in the stream
pub all_frames : (wide : Bool) (fs : List Frame) → AllByRecursion IsFrame fs → AllByRecursion (Known wide) fs → AllByRecursion (IsFrameOf wide) fs
all_frames wide [] all known = tt
all_frames wide (f ∷ fs) all known = (record { frame = all.0; known = known.0 }, all_frames wide fs all.1 known.1)

-- ---- a client

-- a client's profile is wide exactly if the plan is that accepts it
pub profile_wide : (p : Plan) (profile : ℕ) → accepts_profile p profile ≡ true → is_wide profile ≡ is_wide p.form
profile_wide p profile e = by (is_wide p.form) refl e
  where
    named : (n : ℕ) (b : Bool) → (profile == n && b) ≡ true → profile ≡ n
    named n b h = elim (cases_Bool (profile == n)) [
      | inl same ↦ eqb-true profile n same
      | inr other ↦ absurd (let no : false ≡ true = sym (ap (λ (c : Bool). c && b) other) ∙ h in cc)
    ]

    of_wide : ((profile == 130) || ((profile == 129) && (p.form == 129))) ≡ true → is_wide profile ≡ true
    of_wide h = elim (or_cases (profile == 130) ((profile == 129) && (p.form == 129)) h) [
      | inl slots ↦ ap is_wide (eqb-true profile 130 slots)
      | inr plain ↦ ap is_wide (named 129 (p.form == 129) plain)
    ]

    of_ordinary : ((profile == 2) || ((profile == 1) && (p.form == 1))) ≡ true → is_wide profile ≡ false
    of_ordinary h = elim (or_cases (profile == 2) ((profile == 1) && (p.form == 1)) h) [
      | inl slots ↦ ap is_wide (eqb-true profile 2 slots)
      | inr plain ↦ ap is_wide (named 1 (p.form == 1) plain)
    ]

    by : (b : Bool) → b ≡ is_wide p.form →
        (if b then ((profile == 130) || ((profile == 129) && (p.form == 129))) else ((profile == 2) || ((profile == 1) && (p.form == 1)))) ≡ true →
        is_wide profile ≡ is_wide p.form
    by true is h = of_wide h ∙ is
    by false is h = of_ordinary h ∙ is

-- a wide client asks for records, and another one for rows
since_known : (wide : Bool) (since : ℕ) → Known wide (frame_since wide since)
since_known true since = refl
since_known false since = refl

sync_known : (since : Option ℕ) (scheme : Scheme) (c : ClientState) →
    Known (is_wide_client c) (sync_frame since scheme c)
sync_known None scheme c = refl
sync_known (Some since) scheme c = since_known (is_wide_client c) since

-- the frame of a call
pub call_known : (w : ClientCall) (c : ClientState) → Known (is_wide_client c) (call_frame w c)
call_known (Hello key) c = refl
call_known (Sync scheme) c = sync_known (delta_base scheme c.hint) scheme c
call_known (Ask i) c = refl
call_known (Edit i bytes) c = refl
call_known (Append bytes) c = refl
call_known Publish c = refl

reaction_known : (wide : Bool) (r : Reaction) → AllByRecursion (Known wide) (sends_of r)
reaction_known wide (Asks scheme version part) = (refl, tt)
reaction_known wide (Reports e) = tt
reaction_known wide (Fails f) = tt

runs_known : (wide : Bool) (k : Course) (fs : List Frame) → AllByRecursion (Known wide) k.sends → AllByRecursion (Known wide) (runs k fs).sends
runs_known wide k [] known = known
runs_known wide k (f ∷ fs) known = runs_known wide (course_more k f) fs (elim (cases_Bool (is_some k.fault)) [
  | inl over ↦ rw over known
  | inr goes ↦ rw goes (all_append (Known wide) k.sends (sends_of (reaction_to_reply k.state f).reaction) known
      (reaction_known wide (reaction_to_reply k.state f).reaction))
])

-- what a client sends when it takes replies
pub sends_known : (wide : Bool) (c : ClientState) (fs : List Frame) → AllByRecursion (Known wide) (takes_all c fs).sends
sends_known wide c fs = runs_known wide (start c) fs tt

-- ---- the server

of_option : (x : Setting) (o : Option Frame) → HasKnownKind x o → AllByRecursion (Known (is_wide_setting x)) (option_to_list o)
of_option x None known = tt
of_option x (Some f) known = (known, tt)

served_known : (short : Bool) (x : Setting) (h : History) (st : Standing) (f : Frame) → HasKnownKind x (served_or short x h st f).reply
served_known false x h st f = replies_known x h st f
served_known true x h st f = elim (cases_Bool (takes_memory x h st f)) [
  | inl takes ↦ rw takes refl
  | inr none ↦ rw none (replies_known x h st f)
]

turns_known : (x : Setting) (short : Bool) (k : ℕ) (t : FramesServed) (fs : List Frame) → AllByRecursion (Known (is_wide_setting x)) t.replies →
    AllByRecursion (Known (is_wide_setting x)) (fold (with_frame_served x short k) t fs).replies
turns_known x short k t [] known = known
turns_known x short k t (f ∷ fs) known = turns_known x short k (with_frame_served x short k t f) fs (elim (cases_Bool (is_closed t.standing)) [
  | inl shut ↦ rw shut known
  | inr open_ ↦ rw open_ (all_append (Known (is_wide_setting x)) t.replies (option_to_list (served_or short x t.history t.standing f).reply) known
      (of_option x (served_or short x t.history t.standing f).reply (served_known short x t.history t.standing f)))
])

-- the replies of a turn
pub turn_known : (x : Setting) (short : Bool) (k most : ℕ) (h : History) (l : ClientLink) →
    AllByRecursion (Known (is_wide_setting x)) (turn_of x short k most h l).replies
turn_known x short k most h l = turns_known x short k _ (arrived l.up most) tt
