-- No answer is older than what was reported before.
use Rattle.std.proofs.Common.{◌≡◌, ℕ, ◌+◌, ◌≤◌, ◌^◌, Bool, true, false, List, [], ◌∷◌, ◌++◌, length, Option, Some, None, refl, sym, subst, inl, inr}
use Rattle.std.specs.Prelude.{nat_lt, ◌==◌, slice_get, is_some}
use Rattle.std.specs.List.{AllByRecursion}
use Rattle.std.proofs.lemmas.Bool.{cond_both}
use Rattle.pir_schemes.specs.Plans.{fits, shape_at}
use Rattle.pir_schemes.specs.Laws.{RetrievalGivesTheRecord}
use Rattle.frame_codec.specs.declared.frame.Frame.{Frame}
use Rattle.pir_schemes.specs.declared.scheme.Scheme.{Scheme}
use Rattle.version_store.specs.Histories.{History, current_version}
use Rattle.server_core.specs.declared.standing.Standing.{Standing}
use Rattle.server_core.specs.Serving.{Setting, is_closed}
use Rattle.client_core.specs.declared.state.ClientState.{ClientState}
use Rattle.client_core.specs.declared.state.Call.{Call}
use Rattle.client_core.specs.declared.state.Call.TheVariants as call
use Rattle.client_core.specs.declared.state.CallFault.{CallFault}
use Rattle.client_core.specs.declared.state.Event.{Event}
use Rattle.client_core.specs.declared.state.Event.TheVariants.{Welcomed, Synced, Retrieved, Unreadable, Stale, Done, Refused}
use Rattle.client_core.specs.declared.state.Reaction.{Reaction}
use Rattle.client_core.specs.declared.state.Reaction.TheVariants.{Asks, Reports, Fails}
use Rattle.client_core.specs.States.{scheme_held}
use Rattle.client_core.specs.Calls.{ClientCall, call_refusal}
use Rattle.client_core.specs.Calls.{Hello as hello_call, Sync as sync_call, Ask as ask_call}
use Rattle.client_core.specs.Feeding.{fault_of}
use Rattle.client_core.specs.Replies.{event_read, reaction_to_reply}
use Rattle.pir_world.specs.declared.steps.Step.{Step}
use Rattle.pir_world.specs.declared.steps.Step.TheVariants.{Edit, Append, Publish, Hello, Sync, Ask, ToServer, ToClient}
use Rattle.pir_world.specs.declared.steps.Outcome.TheVariants.{Published, Reported}
use Rattle.pir_world.specs.Runs.{State, ClientLink, FramesServed, LogEntry, Called, Sent, Served, Ended, Plain, serves, arrived, wire_after, reports, reacts, state_after, call_at, called_at, served_at, edit_after, publish_after, StepsTo, RunsTo, reader_key, opening, setting_in, append_after}
use Rattle.pir_world.specs.Versions.{seed_of}
use Rattle.pir_world.specs.Headlines.{IsRight, IsRightEvent}
use Rattle.pir_world.specs.Invariants.{LinkInvariant, EachAfter, WorldInvariant}
use Rattle.pir_world.specs.Freshness.{NamesUpTo, ReportedUpTo, IsServedFresh, IsFreshIn, AnswersAreFresh, EveryLogIsFresh}
use Rattle.pir_world.proofs.Receipts.{reported_by, reported_by_course, receipt_at}
use Rattle.pir_world.proofs.Wires.{IsFew, split_few}
use Rattle.pir_world.proofs.Calls.{few_frames}
use Rattle.pir_world.proofs.Deliveries.{few_of_split}
use Rattle.pir_world.proofs.Logs.{each_more, all_with_earlier}
use Rattle.pir_world.proofs.Keeping.{step_inv, run_inv}
use Rattle.pir_world.proofs.Opening.{opening_inv}
use Rattle.digit_pack.specs.Layout.{is_layout}
use Rattle.pir_world.proofs.Links.{turn_of}

record_up_to : (i v n : ℕ) (given : Option (List ℕ)) → v ≤ n → NamesUpTo n (event_read i v given)
record_up_to i v n (Some bytes) le = le
record_up_to i v n None le = le

event_up_to : (h : History) (e : Event) → IsRightEvent h e → NamesUpTo (current_version h) e
event_up_to h (Welcomed v) p = p.1.0
event_up_to h (Synced scheme v) p = p.1.0
event_up_to h (Retrieved i v bytes) p = absurd p
event_up_to h (Unreadable i v) p = absurd p
event_up_to h (Stale v) p = p.1.0
event_up_to h (Done v) p = absurd p
event_up_to h (Refused code) p = tt

module _ (x : Setting) (seeds : List (List ℕ)) (h : History) where
  entry_up_to : (e : LogEntry) → IsRight x seeds h e → ReportedUpTo (current_version h) e
  entry_up_to (Called k want call_refusal) p = tt
  entry_up_to (Sent k f) p = tt
  entry_up_to (Served k f now reply) p = tt
  entry_up_to (Ended k r reply event) (inl a) = rw a.event_is (record_up_to r.index r.version (current_version h) _ a.version_is.0)
  entry_up_to (Ended k r reply event) (inr (inl s)) = rw s.event_is s.version_is.0
  entry_up_to (Ended k r reply event) (inr (inr p)) = rw p.1 tt
  entry_up_to (Plain (Reported k event)) p = event_up_to h event p
  entry_up_to (Plain (Published v)) p = p.1.0
  entry_up_to (Plain _) p = tt

  all_up_to : (es : List LogEntry) → AllByRecursion (IsRight x seeds h) es → AllByRecursion (ReportedUpTo (current_version h)) es
  all_up_to [] p = tt
  all_up_to (e ∷ es) p = (entry_up_to e p.0, all_up_to es p.1)

-- a delivery to the server brings at most one frame
few_arrive : (x : Setting) (h : History) (seed : List ℕ) (l : ClientLink) → LinkInvariant x h seed l → (most : ℕ) → IsFew (arrived l.up most)
few_arrive x h seed l i most =
    let few = (few_frames x h l.standing seed l.client l.client.call l.up.frames l.down.frames i.phase).0 in
    few_of_split l.up.frames (arrived l.up most) (wire_after l.up most).frames few (split_few l.up most few)

-- ---- the next delivery

-- of at most one frame
one_fresh : (x : Setting) (short : Bool) (k : ℕ) (h : History) (st : Standing) (log : List LogEntry) (fs : List Frame) → IsFew fs →
    AllByRecursion (ReportedUpTo (current_version h)) log → AllByRecursion (IsFreshIn h log) (serves x short k h st fs).log
one_fresh x short k h st log fs (inl e) reported = rw e tt
one_fresh x short k h st log fs (inr p) reported =
    rw p.1 (cond_both (is_closed st) _ _ (λ (t : FramesServed). AllByRecursion (IsFreshIn h log) t.log) (λ c. tt) (λ c. ((refl, reported), tt)))

pub fresh : RetrievalGivesTheRecord → AnswersAreFresh
fresh law h records seeds steps s o run short k most l at =
    let inv = run_inv law (setting_in h) seeds (opening h records seeds) steps s run (opening_inv h records seeds o) in
    one_fresh (setting_in h) short k s.history l.standing s.log (arrived l.up most)
    (few_arrive (setting_in h) s.history (seed_of seeds k) l (inv.links k l at) most)
    (all_up_to (setting_in h) seeds s.history s.log inv.entries)

-- ---- a whole log

-- of at most one frame
one_served : (x : Setting) (short : Bool) (k : ℕ) (h : History) (st : Standing) (log : List LogEntry) (fs : List Frame) → IsFew fs →
    AllByRecursion (ReportedUpTo (current_version h)) log → EachAfter IsServedFresh log (serves x short k h st fs).log
one_served x short k h st log fs (inl e) reported = rw e tt
one_served x short k h st log fs (inr p) reported =
    rw p.1 (cond_both (is_closed st) _ _ (λ (t : FramesServed). EachAfter IsServedFresh log t.log) (λ c. tt) (λ c. (reported, tt)))

reports_served : (k : ℕ) (z : Scheme) (c : Call) (reply : Frame) (e : Event) (before : List LogEntry) → IsServedFresh before (reports k z c reply e)
reports_served k z call.Idle reply e before = tt
reports_served k z call.Hello reply e before = tt
reports_served k z (call.Sync scheme v p) reply e before = tt
reports_served k z (call.Delta since) reply e before = tt
reports_served k z (call.Changes since) reply e before = tt
reports_served k z (call.Ask i v n) reply e before = tt
reports_served k z call.Edit reply e before = tt
reports_served k z call.Append reply e before = tt
reports_served k z call.Publish reply e before = tt

reacts_served : (k : ℕ) (z : Scheme) (c : Call) (reply : Frame) (r : Reaction) (before : List LogEntry) → EachAfter IsServedFresh before (reacts k z c reply r)
reacts_served k z c reply (Asks scheme version part) before = (tt, tt)
reacts_served k z c reply (Reports e) before = (reports_served k z c reply e before, tt)
reacts_served k z c reply (Fails fault) before = (tt, tt)

-- a delivery to a client serves no frame
reported_served : (k : ℕ) (c : ClientState) (fs : List Frame) (before : List LogEntry) → EachAfter IsServedFresh before (reported_by k c fs)
reported_served k c [] before = tt
reported_served k c (f ∷ fs) before =
    let t = reaction_to_reply c f in
    each_more IsServedFresh before (reacts k (scheme_held c.hint) c.call f t.reaction) _ (reacts_served k (scheme_held c.hint) c.call f t.reaction before)
    (cond_both (is_some (fault_of t.reaction)) [] (reported_by k t.state fs) (λ es. EachAfter IsServedFresh (before ++ reacts k (scheme_held c.hint) c.call f t.reaction) es)
    (λ e. tt) (λ e. reported_served k t.state fs (before ++ reacts k (scheme_held c.hint) c.call f t.reaction)))

module _ (x : Setting) (seeds : List (List ℕ)) (s : State) (inv : WorldInvariant x seeds s) (so_far : EachAfter IsServedFresh [] s.log) where
  -- entries are added
  added : (es : List LogEntry) → EachAfter IsServedFresh s.log es → EachAfter IsServedFresh [] (s.log ++ es)
  added es p = each_more IsServedFresh [] s.log es so_far p

  call_served : (k : ℕ) (w : ClientCall) (l : ClientLink) (f : Option CallFault) → EachAfter IsServedFresh [] (call_at s k w l f).log
  call_served k w l (Some fault) = added _ (tt, tt)
  call_served k w l None = added _ (tt, (tt, tt))

  called_served : (w : ClientCall) (k : ℕ) (o : Option ClientLink) → EachAfter IsServedFresh [] (called_at s w k o).log
  called_served w k None = so_far
  called_served w k (Some l) = call_served k w l (call_refusal w l.client)

  delivered : (short : Bool) (k most : ℕ) (o : Option ClientLink) → slice_get s.links k ≡ o → EachAfter IsServedFresh [] (served_at x short s k most o).log
  delivered short k most None at = so_far
  delivered short k most (Some l) at =
      added (turn_of x short k most s.history l).log
      (one_served x short k s.history l.standing s.log (arrived l.up most)
      (few_arrive x s.history (seed_of seeds k) l (inv.links k l at) most) (all_up_to x seeds s.history s.log inv.entries))

  reported : (k most : ℕ) (o : Option ClientLink) → EachAfter IsServedFresh [] (reported_by_course s k most o).log
  reported k most None = so_far
  reported k most (Some l) = added _ (reported_served k l.client (arrived l.down most) s.log)

  edited : (i : ℕ) (bytes : List ℕ) → EachAfter IsServedFresh [] (edit_after x s i bytes).log
  edited i bytes =
      cond_both (nat_lt i (length s.history.draft)) _ _ (λ (t : State). EachAfter IsServedFresh [] t.log)
      (λ t. cond_both (fits x.plan bytes) _ _ (λ (t : State). EachAfter IsServedFresh [] t.log) (λ u. added _ (tt, tt)) (λ u. added _ (tt, tt)))
      (λ t. added _ (tt, tt))

  appended : (bytes : List ℕ) → EachAfter IsServedFresh [] (append_after x s bytes).log
  appended bytes =
      cond_both (fits x.plan bytes) _ _ (λ (t : State). EachAfter IsServedFresh [] t.log)
      (λ t. cond_both (is_layout (shape_at x.plan (length s.history.draft + 1))) _ _ (λ (t : State). EachAfter IsServedFresh [] t.log)
      (λ u. added _ (tt, tt)) (λ u. added _ (tt, tt)))
      (λ t. added _ (tt, tt))

  published_served : EachAfter IsServedFresh [] (publish_after s).log
  published_served =
      cond_both s.history.marked _ _ (λ (t : State). EachAfter IsServedFresh [] t.log)
      (λ t. cond_both (current_version s.history + 1 == 2 ^ 64) _ _ (λ (t : State). EachAfter IsServedFresh [] t.log)
      (λ u. added _ (tt, tt)) (λ u. added _ (tt, tt)))
      (λ t. added _ (tt, tt))

  after_served : (short : Bool) (step : Step) → EachAfter IsServedFresh [] (state_after x short s step).log
  after_served short (Edit i bytes) = edited i bytes
  after_served short (Append bytes) = appended bytes
  after_served short Publish = published_served
  after_served short (Hello k) = called_served (hello_call reader_key) k (slice_get s.links k)
  after_served short (Sync k scheme) = called_served (sync_call scheme) k (slice_get s.links k)
  after_served short (Ask k i) = called_served (ask_call i) k (slice_get s.links k)
  after_served short (ToServer k most) = delivered short k most (slice_get s.links k) refl
  after_served short (ToClient k most) =
      subst (λ (t : State). EachAfter IsServedFresh [] t.log) (sym (receipt_at s k most (slice_get s.links k))) (reported k most (slice_get s.links k))

  step_served : (step : Step) (t : State) → StepsTo x s step t → EachAfter IsServedFresh [] t.log
  step_served step t (f, inl e) = rw e (after_served false step)
  step_served step t (f, inr e) = rw e (after_served true step)

run_served : RetrievalGivesTheRecord → (x : Setting) (seeds : List (List ℕ)) (s : State) (steps : List Step) (t : State) → RunsTo x s steps t → WorldInvariant x seeds s →
    EachAfter IsServedFresh [] s.log → EachAfter IsServedFresh [] t.log
run_served law x seeds s [] t e inv so_far = rw (← e) so_far
run_served law x seeds s (step ∷ steps) t r inv so_far =
    run_served law x seeds r.0 steps t r.2 (step_inv law x seeds s step r.0 r.1 inv) (step_served x seeds s inv so_far step r.0 r.1)

pub every_log : RetrievalGivesTheRecord → EveryLogIsFresh
every_log law h records seeds steps s o run =
    all_with_earlier IsServedFresh s.log
    (run_served law (setting_in h) seeds (opening h records seeds) steps s run (opening_inv h records seeds o) tt)
