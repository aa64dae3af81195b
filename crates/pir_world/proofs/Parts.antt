-- From one client's end to all.
use Rattle.std.proofs.Common.{◌≡◌, ◌≢◌, ℕ, ◌⊎◌, Bool, true, false, cond, List, [], ◌∷◌, ◌++◌, map, Option, Some, None, Ok, refl, sym, ap, subst, ◌∙◌, inl, inr}
use Rattle.std.specs.Prelude.{slice_get, slice_set, is_some, fold}
use Rattle.std.specs.List.{AllByRecursion, flat_map}
use Rattle.std.proofs.lemmas.List.{append-nil}
use Rattle.std.proofs.lemmas.List.Concat.{flat_map-append}
use Rattle.std.proofs.lemmas.Bool.{cases_eq}
use Rattle.frame_codec.specs.declared.frame.Frame.{Frame}
use Rattle.pir_schemes.specs.declared.scheme.Scheme.{Scheme}
use Rattle.version_store.specs.Histories.{History, StandsFor}
use Rattle.server_core.specs.Cores.{Core, session_of}
use Rattle.server_core.specs.Serving.{Setting, setting_of}
use Rattle.server_core.specs.Serving.{is_closed}
use Rattle.server_core.specs.Sessions.{Session, FeedsStore}
use Rattle.client_core.specs.declared.state.ClientState.{ClientState}
use Rattle.client_core.specs.declared.state.ClientFault.{ClientFault}
use Rattle.client_core.specs.declared.state.ClientFault.TheVariants.{Memory}
use Rattle.client_core.specs.declared.state.CallFault.{CallFault}
use Rattle.client_core.specs.declared.state.Call.{Call}
use Rattle.client_core.specs.declared.state.Call.TheVariants as call
use Rattle.client_core.specs.declared.state.Event.{Event}
use Rattle.client_core.specs.declared.state.Reaction.{Reaction}
use Rattle.client_core.specs.declared.state.Reaction.TheVariants.{Asks, Reports, Fails}
use Rattle.client_core.specs.Calls.{ClientCall, Accepts, call_refusal, state_after_call, call_frame}
use Rattle.client_core.specs.Replies.{reaction_to_reply}
use Rattle.client_core.specs.Feeding.{takes_all, events_of, fault_of}
use Rattle.frame_codec.specs.Frames.{IsFrame, encoding}
use Rattle.pir_world.specs.declared.steps.Outcome.{Outcome}
use Rattle.pir_world.specs.declared.steps.Outcome.TheVariants.{Reported, CallRefused}
use Rattle.pir_world.specs.Runs.{State, ClientLink, FramesServed, with_frame_served, sent, with_history, LogEntry, Called, Sent, Plain, arrived, reacts, reports, outcomes_of, outcome_of, called_at, served_at}
use Rattle.pir_schemes.specs.Laws.{RetrievalGivesTheRecord}
use Rattle.pir_world.specs.Versions.{seed_of}
use Rattle.pir_world.specs.Invariants.{WorldInvariant, LinkInvariant}
use Rattle.pir_world.specs.Sides.{Side, Carries, EndIs, TakesDelivery, ServesDelivery, MakesCall, Matched, Implements, prefix}
use Rattle.pir_world.proofs.Receipts.{reported_by, reported_by_course}
use Rattle.pir_world.proofs.Later.{get_same, get_other}
use Rattle.pir_world.proofs.Wires.{IsFew, split_few}
use Rattle.frame_codec.specs.Streams.{IsFrameOf}
use Rattle.pir_schemes.specs.Plans.{accepts_profile}
use Rattle.client_core.specs.States.{is_wide_client, scheme_held}
use Rattle.server_core.specs.Serving.{is_wide_setting}
use Rattle.pir_world.proofs.FrameKinds.{Known, call_known, profile_wide}
use Rattle.pir_world.proofs.Bytes.{carries_more}
use Rattle.pir_world.proofs.Calls.{few_frames}
use Rattle.pir_world.proofs.Deliveries.{reported_end, EndReported, served_end, few_of_split}
use Rattle.pir_world.proofs.Links.{link_reported, link_served, link_called, turn_of}

-- a client's end has its session and its link
pub record Met (x : Setting) (core : Core) (k : ℕ) (e : Side) (s : State) : Type 0 where
  pub session : Session
  pub link : ClientLink
  pub session_is : session_of core.sessions k ≡ Some session
  pub link_is : slice_get s.links k ≡ Some link
  pub end_is : EndIs (is_wide_setting x) e session link

met_at : (wide : Bool) (e : Side) (o : Option Session) (l : Option ClientLink) → Matched wide (Some e) o l → (y : Session) × (m : ClientLink) × (o ≡ Some y) × (l ≡ Some m) × EndIs wide e y m
met_at wide e None l p = absurd p
met_at wide e (Some y) None p = absurd p
met_at wide e (Some y) (Some m) p = (y, m, refl, refl, p)

pub met : (x : Setting) (core : Core) (ends : List Side) (os : List Outcome) (s : State) (k : ℕ) (e : Side) → Implements x core ends os s →
    slice_get ends k ≡ Some e → Met x core k e s
met x core ends os s k e p at =
    let P : Option Side → Type 0 = λ o. Matched (is_wide_setting x) o (session_of core.sessions k) (slice_get s.links k) in
    let q = met_at (is_wide_setting x) e (session_of core.sessions k) (slice_get s.links k) (subst P at (p.ends_are k)) in
    record { session = q.0; link = q.1; session_is = q.2; link_is = q.3; end_is = q.4 }

-- one end, its session and its link are replaced
one_replaced : (x : Setting) (core core2 : Core) (ends : List Side) (os : List Outcome) (s : State) (k : ℕ) (e e2 : Side) (l l2 : ClientLink) (y2 : Session) →
    Implements x core ends os s → slice_get ends k ≡ Some e → slice_get s.links k ≡ Some l
    → session_of core2.sessions k ≡ Some y2 → ((other : ℕ) → other ≢ k → session_of core2.sessions other ≡ session_of core.sessions other) → EndIs (is_wide_setting x) e2 y2 l2
    → (j : ℕ) → Matched (is_wide_setting x) (slice_get (slice_set ends k e2) j) (session_of core2.sessions j) (slice_get (slice_set s.links k l2) j)
one_replaced x core core2 ends os s k e e2 l l2 y2 p at lat yat others i j = elim (cases_eq j k) [
  | inl same ↦ subst (λ (n : ℕ). Matched (is_wide_setting x) (slice_get (slice_set ends k e2) n) (session_of core2.sessions n) (slice_get (slice_set s.links k l2) n)) (sym same)
      (rw (get_same ends k e2 e at, yat, get_same s.links k l2 l lat) i)
  | inr other ↦ rw (get_other ends k j e2 other, others j other, get_other s.links k j l2 other) (p.ends_are j)
]

-- ---- what is written down tells the outcomes

reports_event : (k : ℕ) (z : Scheme) (c : Call) (reply : Frame) (e : Event) → outcome_of (reports k z c reply e) ≡ Reported k e ∷ []
reports_event k z call.Idle reply e = refl
reports_event k z call.Hello reply e = refl
reports_event k z (call.Sync scheme version part) reply e = refl
reports_event k z (call.Delta since) reply e = refl
reports_event k z (call.Changes since) reply e = refl
reports_event k z (call.Ask i v n) reply e = refl
reports_event k z call.Edit reply e = refl
reports_event k z call.Append reply e = refl
reports_event k z call.Publish reply e = refl

reacts_events : (k : ℕ) (z : Scheme) (c : Call) (reply : Frame) (r : Reaction) → fault_of r ≡ None → outcomes_of (reacts k z c reply r) ≡ map (Reported k) (events_of r)
reacts_events k z c reply (Asks scheme version part) e = refl
reacts_events k z c reply (Reports event) e = append-nil _ ∙ reports_event k z c reply event
reacts_events k z c reply (Fails fault) e = absurd cc

one_reported : (k : ℕ) (c : ClientState) (r : Frame) → fault_of (reaction_to_reply c r).reaction ≡ None →
    outcomes_of (reported_by k c (r ∷ [])) ≡ map (Reported k) (takes_all c (r ∷ [])).events
one_reported k c r e =
    ap (λ (b : Bool). outcomes_of (reacts k (scheme_held c.hint) c.call r (reaction_to_reply c r).reaction ++ cond b [] [])) (ap is_some e)
    ∙ ap (λ (es : List LogEntry). outcomes_of es) (append-nil (reacts k (scheme_held c.hint) c.call r (reaction_to_reply c r).reaction))
    ∙ reacts_events k (scheme_held c.hint) c.call r (reaction_to_reply c r).reaction e

few_reported : (k : ℕ) (c : ClientState) (fs : List Frame) → IsFew fs → (takes_all c fs).fault ≡ None →
    outcomes_of (reported_by k c fs) ≡ map (Reported k) (takes_all c fs).events
few_reported k c fs (inl e) good = rw e refl
few_reported k c fs (inr p) good =
    let g : (takes_all c (p.0 ∷ [])).fault ≡ None = subst (λ (f : List Frame). (takes_all c f).fault ≡ None) p.1 good in
    subst (λ (f : List Frame). outcomes_of (reported_by k c f) ≡ map (Reported k) (takes_all c f).events) (sym p.1) (one_reported k c p.0 g)

outcomes_more : (log es : List LogEntry) (os more : List Outcome) → os ≡ outcomes_of log → outcomes_of es ≡ more → os ++ more ≡ outcomes_of (log ++ es)
outcomes_more log es os more a b = rw (a, ← b) (sym (flat_map-append outcome_of log es))

-- what the server does tells no outcome
serves_silent : (x : Setting) (short : Bool) (k : ℕ) (t : FramesServed) (fs : List Frame) → outcomes_of t.log ≡ [] → outcomes_of (fold (with_frame_served x short k) t fs).log ≡ []
serves_silent x short k t [] e = e
serves_silent x short k t (f ∷ fs) e = serves_silent x short k (with_frame_served x short k t f) fs (one (is_closed t.standing) refl)
  where
    one : (b : Bool) → is_closed t.standing ≡ b → outcomes_of (with_frame_served x short k t f).log ≡ []
    one true c = rw c e
    one false c = rw c (flat_map-append outcome_of t.log _ ∙ rw e refl)

-- ---- the three kinds of step at a client

module _ (x : Setting) (core : Core) (ends : List Side) (os : List Outcome) (s : State) (k : ℕ) (e e2 : Side) (p : Implements x core ends os s)
    (at : slice_get ends k ≡ Some e) where
  pub parts_reported : RetrievalGivesTheRecord → (seeds : List (List ℕ)) (most : ℕ) (out : List ℕ) (events : List Event) (fault : Option ClientFault) →
      WorldInvariant x seeds s → TakesDelivery most e out events fault e2
      → (fault ≡ Some Memory) ⊎ ((fault ≡ None)
      × Implements x core (slice_set ends k e2) (os ++ map (Reported k) events) (reported_by_course s k most (slice_get s.links k)))
  parts_reported law seeds most out events fault inv d =
      let m = met x core ends os s k e p at in
      let i = inv.links k m.link m.link_is in
      elim (reported_end law x seeds k s.history m.link inv.history i e e2 m.session most m.end_is out events fault d) [
        | inl none ↦ inl none
        | inr t ↦ inr (t.0, go m i t.1)
      ]
    where
      go : (m : Met x core k e s) → LinkInvariant x s.history (seed_of seeds k) m.link → EndReported (is_wide_setting x) e2 m.session m.link most events →
          Implements x core (slice_set ends k e2) (os ++ map (Reported k) events) (reported_by_course s k most (slice_get s.links k))
      go m i t =
          let few = (few_frames x s.history m.link.standing (seed_of seeds k) m.link.client m.link.client.call m.link.up.frames m.link.down.frames i.phase).1 in
          let arrives = few_of_split m.link.down.frames (arrived m.link.down most) _ few (split_few m.link.down most few) in
          let events_reported : outcomes_of (reported_by k m.link.client (arrived m.link.down most)) ≡ map (Reported k) events =
          few_reported k m.link.client (arrived m.link.down most) arrives t.good ∙ ap (λ (es : List Event). map (Reported k) es) (sym t.events_are) in
          rw m.link_is (record {
            setting_is = p.setting_is;
            store_is = p.store_is;
            ends_are = one_replaced x core core ends os s k e e2 m.link (link_reported most m.link) m.session p at m.link_is m.session_is
                (λ j ne. refl) t.end_is;
            outcomes_are = outcomes_more s.log (reported_by k m.link.client (arrived m.link.down most)) os
                (map (Reported k) events) p.outcomes_are events_reported;
          })

  pub parts_served : (core2 : Core) (seeds : List (List ℕ)) (most : ℕ) → WorldInvariant x seeds s
      → ((other : ℕ) → other ≢ k → session_of core2.sessions other ≡ session_of core.sessions other)
      → ((h : History) (session : Session) → StandsFor core.store h → session_of core.sessions k ≡ Some session →
      (then_ : Session) × (session_of core2.sessions k ≡ Some then_) × ServesDelivery most h core.store e session core2.store e2 then_)
      → (short : Bool) × Implements x core2 (slice_set ends k e2) os (served_at x short s k most (slice_get s.links k))
  parts_served core2 seeds most inv others f =
      let m = met x core ends os s k e p at in
      let r = f s.history m.session p.store_is m.session_is in
      let fed = subst (λ (y : Setting). FeedsStore y s.history m.session (prefix most e.up) (Ok tt) core2.store r.0 [] r.2.replies) p.setting_is r.2.fed in
      let t = served_end x seeds k s.history m.link inv.history (inv.links k m.link m.link_is) e e2 m.session r.0 core2.store most r.2.replies m.end_is fed r.2.client
      r.2.up r.2.down in
      let silent_ : outcomes_of (turn_of x t.short k most s.history m.link).log ≡ [] = serves_silent x t.short k _ (arrived m.link.up most) refl in (
        t.short,
        rw m.link_is (record {
          setting_is = t.setting_is;
          store_is = t.store_is;
          ends_are = one_replaced x core core2 ends os s k e e2 m.link (link_served x t.short k most s.history m.link) r.0 p at m.link_is r.1 others t.end_is;
          outcomes_are = sym (append-nil os) ∙ outcomes_more s.log (turn_of x t.short k most s.history m.link).log os [] p.outcomes_are silent_;
        }),
      )

  -- what a call that is refused tells
  abbrev pub refused : Option CallFault → List Outcome
  refused None = []
  refused (Some fault) = CallRefused k fault ∷ []

  accepted_end : (w : ClientCall) (session : Session) (l : ClientLink) → EndIs (is_wide_setting x) e session l → accepts_profile x.plan l.client.profile ≡ true → (bytes : List ℕ) → Accepts e.client.state w e2.client.state bytes →
      e2.client.reader ≡ e.client.reader → e2.up ≡ e.up ++ bytes → e2.down ≡ e.down
      → (call_refusal w l.client ≡ None) × EndIs (is_wide_setting x) e2 session (link_called w l)
  accepted_end w session l i profile bytes a reader up down =
      let f : Frame = call_frame w l.client in
      let state : e2.client.state ≡ state_after_call w l.client = a.state ∙ ap (λ (y : ClientState). state_after_call w y) i.client_is in
      let fits : IsFrame f = subst (λ (y : ClientState). IsFrame (call_frame w y)) i.client_is a.fits in
      let wide : is_wide_client l.client ≡ is_wide_setting x = profile_wide x.plan l.client.profile profile in
      let known : Known (is_wide_setting x) f = subst (λ (b : Bool). Known b f) wide (call_known w l.client) in
      let each : AllByRecursion (IsFrameOf (is_wide_setting x)) (f ∷ []) = (record { frame = fits; known = known }, tt) in
      let written : e2.up ≡ e.up ++ flat_map encoding (f ∷ []) =
      up ∙ ap (λ (b : List ℕ). e.up ++ b) (a.written ∙ ap (λ (y : ClientState). encoding (call_frame w y)) i.client_is
      ∙ sym (append-nil (encoding f))) in (
        ap (λ (y : ClientState). call_refusal w y) (sym i.client_is) ∙ a.may,
        record {
          client_is = state;
          standing_is = i.standing_is;
          up = subst (λ (b : List ℕ). Carries (is_wide_setting x) session.unfinished b (sent l.up (f ∷ []))) (sym written)
              (carries_more (is_wide_setting x) session.unfinished e.up l.up (f ∷ []) each i.up);
          down = subst (λ (b : List ℕ). Carries (is_wide_setting x) e2.client.reader b l.down) (sym down)
              (subst (λ (r : Option (List ℕ)). Carries (is_wide_setting x) r e.down l.down) (sym reader) i.down);
        },
      )

  pub parts_called : (seeds : List (List ℕ)) → WorldInvariant x seeds s → (w : ClientCall) (o : Option CallFault) → MakesCall w e o e2 →
      Implements x core (slice_set ends k e2) (os ++ refused o) (called_at s w k (slice_get s.links k))
  parts_called seeds inv w None c =
      let m = met x core ends os s k e p at in
      let t = accepted_end w m.session m.link m.end_is (inv.links k m.link m.link_is).profile_is c.0 c.1 c.2 c.3 c.4 in
      rw (m.link_is, t.0) (record {
        setting_is = p.setting_is;
        store_is = p.store_is;
        ends_are = one_replaced x core core ends os s k e e2 m.link (link_called w m.link) m.session p at m.link_is m.session_is (λ j ne. refl) t.1;
        outcomes_are = outcomes_more s.log (Called k w None ∷ Sent k (call_frame w m.link.client) ∷ []) os []
            p.outcomes_are refl;
      })
  parts_called seeds inv w (Some fault) c =
      let m = met x core ends os s k e p at in
      let why : call_refusal w m.link.client ≡ Some fault = ap (λ (y : ClientState). call_refusal w y) (sym m.end_is.client_is) ∙ c.0 in
      let same : EndIs (is_wide_setting x) e2 m.session m.link = subst (λ (y : Side). EndIs (is_wide_setting x) y m.session m.link) (sym c.1) m.end_is in
      rw (m.link_is, why) (record {
        setting_is = p.setting_is;
        store_is = p.store_is;
        ends_are = one_replaced x core core ends os s k e e2 m.link m.link m.session p at m.link_is m.session_is (λ j ne. refl) same;
        outcomes_are = outcomes_more s.log (Called k w (Some fault) ∷ []) os (CallRefused k fault ∷ []) p.outcomes_are refl;
      })

-- ---- the publisher's steps

pub parts_plain : (x : Setting) (core core2 : Core) (ends : List Side) (os : List Outcome) (s : State) (h : History) (o : Outcome) → Implements x core ends os s →
    setting_of core2.store ≡ x → StandsFor core2.store h → core2.sessions ≡ core.sessions
    → Implements x core2 ends (os ++ o ∷ []) (with_history s h o)
parts_plain x core core2 ends os s h o p setting stands same = record {
  setting_is = setting;
  store_is = stands;
  ends_are = λ j. subst (λ (ss : List (ℕ × Session)). Matched (is_wide_setting x) (slice_get ends j) (session_of ss j) (slice_get s.links j)) (sym same) (p.ends_are j);
  outcomes_are = outcomes_more s.log (Plain o ∷ []) os (o ∷ []) p.outcomes_are refl;
}
