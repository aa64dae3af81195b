-- Steps that differ in the indices of asks alone keep states alike, and so do runs of them.
use Rattle.std.proofs.Common.{◌≡◌, ℕ, ◌+◌, ◌^◌, List, [], ◌∷◌, length, Bool, true, false, cond, Option, Some, None, refl, sym, ap, subst, ◌∙◌, inl, inr}
use Rattle.std.specs.Prelude.{nat_lt, ◌==◌, slice_get}
use Rattle.std.specs.List.{AllByRecursion, AllZip}
use Rattle.std.proofs.lemmas.Bool.{cond_both}
use Rattle.pir_schemes.specs.Plans.{fits, shape_at}
use Rattle.pir_schemes.specs.Laws.{RetrievalGivesTheRecord}
use Rattle.version_store.specs.Histories.{History, current_version}
use Rattle.server_core.specs.Serving.{Setting}
use Rattle.client_core.specs.declared.state.CallFault.{CallFault}
use Rattle.client_core.specs.Calls.{ClientCall, call_refusal}
use Rattle.client_core.specs.Calls.{Hello as hello_call, Sync as sync_call, Ask as ask_call}
use Rattle.pir_world.specs.declared.steps.Step.{Step}
use Rattle.pir_world.specs.declared.steps.Step.TheVariants.{Edit, Append, Publish, Hello, Sync, Ask, ToServer, ToClient}
use Rattle.pir_world.specs.declared.steps.Outcome.{Outcome}
use Rattle.pir_world.specs.Runs.{
  State,
  ClientLink,
  LogEntry,
  Plain,
  FramesServed,
  state_after,
  called_at,
  served_at,
  call_at,
  with_link,
  with_history,
  edit_after,
  append_after,
  publish_after,
  arrived,
  wire_after,
  sent,
  reader_key,
  StepsTo,
  RunsTo,
  opening,
  setting_in,
}
use Rattle.pir_world.specs.Versions.{seed_of}
use Rattle.pir_world.specs.Shapes.{IsStepLike, HadMemory, AskIsWithin, AsksAreWithin, IsPlainRun, IndicesChangeNoShape}
use Rattle.pir_world.specs.Invariants.{WorldInvariant}
use Rattle.pir_world.proofs.Receipts.{reported_by_course, receipt_at}
use Rattle.pir_world.proofs.Calls.{few_frames}
use Rattle.pir_world.proofs.Keeping.{step_inv}
use Rattle.pir_world.proofs.Opening.{opening_inv}
use Rattle.pir_world.proofs.Wires.{IsFew}
use Rattle.pir_world.proofs.ShapesServed.{equal_append, all_first, all_last, turns_same}
use Rattle.client_core.proofs.ShapeLaws.{no_index, same_ask}
use Rattle.pir_world.proofs.ShapesClients.{IsCallLike, IsReaders}
use Rattle.pir_world.proofs.ShapesLinks.{IsStateLike, IsRefusedLike, state_itself, called_like, served_like, reported_like}
use Rattle.digit_pack.specs.Layout.{is_layout}

-- ---- one step

either : (b : Bool) (s s2 t t2 : State) → IsStateLike s t → IsStateLike s2 t2 → IsStateLike (cond b s s2) (cond b t t2)
either true s s2 t t2 p q = p
either false s s2 t t2 p q = q

module _ (x : Setting) (s t : State) (a : IsStateLike s t) where
  -- the other state with another history
  abbrev other_at : History → State
  other_at h = record { history = h; links = t.links; log = t.log }

  history_like : (h : History) (o : Outcome) → IsStateLike (with_history s h o) (with_history t h o)
  history_like h o = record {
    history = refl;
    links = a.links;
    logs = equal_append s.log t.log (Plain o ∷ []) (Plain o ∷ []) a.logs (λ k. refl);
  }

  edit_like : (i : ℕ) (bytes : List ℕ) → IsStateLike (edit_after x s i bytes) (edit_after x t i bytes)
  edit_like i bytes =
      subst (λ (h : History). IsStateLike (edit_after x s i bytes) (edit_after x (other_at h) i bytes)) (sym a.history)
      (either (nat_lt i (length s.history.draft)) _ _ _ _
      (either (fits x.plan bytes) _ _ _ _ (history_like _ _) (history_like _ _))
      (history_like _ _))

  append_like : (bytes : List ℕ) → IsStateLike (append_after x s bytes) (append_after x t bytes)
  append_like bytes =
      subst (λ (h : History). IsStateLike (append_after x s bytes) (append_after x (other_at h) bytes)) (sym a.history)
      (either (fits x.plan bytes) _ _ _ _
      (either (is_layout (shape_at x.plan (length s.history.draft + 1))) _ _ _ _ (history_like _ _) (history_like _ _))
      (history_like _ _))

  publish_like : IsStateLike (publish_after s) (publish_after t)
  publish_like =
      subst (λ (h : History). IsStateLike (publish_after s) (publish_after (other_at h))) (sym a.history)
      (either s.history.marked _ _ _ _
      (either (current_version s.history + 1 == 2 ^ 64) _ _ _ _ (history_like _ _) (history_like _ _))
      (history_like _ _))

  calls_like : (k : ℕ) (v w : ClientCall) → IsReaders v → IsCallLike v w
      → IsRefusedLike v w (slice_get s.links k) (slice_get t.links k)
      → IsStateLike (called_at s v k (slice_get s.links k)) (called_at t w k (slice_get t.links k))
  calls_like k v w r e same = called_like s t a k v w (slice_get s.links k) (slice_get t.links k) refl refl (a.links k) r e same

  -- asks of one client are refused alike, where none of another index is refused for it
  asks_refused : (k i j : ℕ) → AskIsWithin s (Ask k i) (Ask k j) → AskIsWithin t (Ask k j) (Ask k i)
      → IsRefusedLike (ask_call i) (ask_call j) (slice_get s.links k) (slice_get t.links k)
  asks_refused k i j b b2 l m at at2 alike =
      same_ask l.client m.client i j alike
      (λ n. b (λ e. n (let same : Ask k j ≡ Ask k i = e in cc)) l at)
      (λ n. b2 (λ e. n (let same : Ask k i ≡ Ask k j = e in cc)) m at2)

  pub after_like : (seeds : List (List ℕ)) → WorldInvariant x seeds s → (step other : Step) → IsStepLike step other
      → AskIsWithin s step other → AskIsWithin t other step → IsStateLike (state_after x false s step) (state_after x false t other)
  after_like seeds inv (Edit i bytes) other e b b2 = rw e (edit_like i bytes)
  after_like seeds inv (Append bytes) other e b b2 = rw e (append_like bytes)
  after_like seeds inv Publish other e b b2 = rw e publish_like
  after_like seeds inv (Hello k) other e b b2 = rw e (calls_like k (hello_call reader_key) (hello_call reader_key) tt refl
      (λ l m at at2 alike. no_index.same_refusal l.client m.client (hello_call reader_key) (hello_call reader_key) tt tt alike refl))
  after_like seeds inv (Sync k scheme) other e b b2 = rw e (calls_like k (sync_call scheme) (sync_call scheme) tt refl
      (λ l m at at2 alike. no_index.same_refusal l.client m.client (sync_call scheme) (sync_call scheme) tt tt alike refl))
  after_like seeds inv (Ask k i) other e b b2 =
      let P : Step → Type 0 = λ o. AskIsWithin s (Ask k i) o → AskIsWithin t o (Ask k i)
      → IsStateLike (state_after x false s (Ask k i)) (state_after x false t o) in
      subst P (sym e.1) (λ b3 b4. calls_like k (ask_call i) (ask_call e.0) tt (e.0, refl) (asks_refused k i e.0 b3 b4)) b b2
  after_like seeds inv (ToServer k most) other e b b2 = rw e (served_like s t a k x most (slice_get s.links k) (slice_get t.links k) refl refl (a.links k))
  after_like seeds inv (ToClient k most) other e b b2 =
      rw e (subst (λ (u : State). IsStateLike u (state_after x false t (ToClient k most))) (sym (receipt_at s k most (slice_get s.links k)))
      (subst (λ (u : State). IsStateLike (reported_by_course s k most (slice_get s.links k)) u) (sym (receipt_at t k most (slice_get t.links k)))
      (reported_like s t a k most (slice_get s.links k) (slice_get t.links k) refl refl (a.links k) few)))
    where
      few : (l : ClientLink) → slice_get s.links k ≡ Some l → IsFew l.down.frames
      few l at = (few_frames x s.history l.standing (seed_of seeds k) l.client l.client.call l.up.frames l.down.frames (inv.links k l at).phase).1

-- ---- what was written down stays, and where nobody is refused for memory the server had it

module _ (x : Setting) (s : State) where
  module _ (P : LogEntry → Type 0) where
    abbrev IsHeldBefore : State → Type 0
    IsHeldBefore t = AllByRecursion P t.log → AllByRecursion P s.log

    call_kept : (k : ℕ) (w : ClientCall) (l : ClientLink) (f : Option CallFault) → IsHeldBefore (call_at s k w l f)
    call_kept k w l (Some fault) all = all_first P s.log _ all
    call_kept k w l None all = all_first P s.log _ all

    called_kept : (k : ℕ) (w : ClientCall) (o : Option ClientLink) → IsHeldBefore (called_at s w k o)
    called_kept k w None all = all
    called_kept k w (Some l) all = call_kept k w l (call_refusal w l.client) all

    served_kept : (short : Bool) (k most : ℕ) (o : Option ClientLink) → IsHeldBefore (served_at x short s k most o)
    served_kept short k most None all = all
    served_kept short k most (Some l) all = all_first P s.log _ all

    reported_kept : (k most : ℕ) (o : Option ClientLink) → IsHeldBefore (reported_by_course s k most o)
    reported_kept k most None all = all
    reported_kept k most (Some l) all = all_first P s.log _ all

    step_kept : (short : Bool) (step : Step) → IsHeldBefore (state_after x short s step)
    step_kept short (Edit i bytes) =
        cond_both (nat_lt i (length s.history.draft)) _ _ IsHeldBefore
        (λ e. cond_both (fits x.plan bytes) _ _ IsHeldBefore (λ e all. all_first P s.log _ all) (λ e all. all_first P s.log _ all))
        (λ e all. all_first P s.log _ all)
    step_kept short (Append bytes) =
        cond_both (fits x.plan bytes) _ _ IsHeldBefore
        (λ e. cond_both (is_layout (shape_at x.plan (length s.history.draft + 1))) _ _ IsHeldBefore (λ e all. all_first P s.log _ all)
        (λ e all. all_first P s.log _ all))
        (λ e all. all_first P s.log _ all)
    step_kept short Publish =
        cond_both s.history.marked _ _ IsHeldBefore
        (λ e. cond_both (current_version s.history + 1 == 2 ^ 64) _ _ IsHeldBefore (λ e all. all_first P s.log _ all) (λ e all. all_first P s.log _ all))
        (λ e all. all_first P s.log _ all)
    step_kept short (Hello k) = called_kept k (hello_call reader_key) (slice_get s.links k)
    step_kept short (Sync k scheme) = called_kept k (sync_call scheme) (slice_get s.links k)
    step_kept short (Ask k i) = called_kept k (ask_call i) (slice_get s.links k)
    step_kept short (ToServer k most) = served_kept short k most (slice_get s.links k)
    step_kept short (ToClient k most) = subst IsHeldBefore (sym (receipt_at s k most (slice_get s.links k))) (reported_kept k most (slice_get s.links k))

    pub steps_kept : (step : Step) (t : State) → StepsTo x s step t → IsHeldBefore t
    steps_kept step t (fits, inl e) = subst IsHeldBefore (sym e) (step_kept false step)
    steps_kept step t (fits, inr e) = subst IsHeldBefore (sym e) (step_kept true step)

  delivery_same : (k most : ℕ) (o : Option ClientLink) → AllByRecursion HadMemory (served_at x true s k most o).log
      → served_at x true s k most o ≡ served_at x false s k most o
  delivery_same k most None all = refl
  delivery_same k most (Some l) all =
      let link : FramesServed → ClientLink = λ t. record { client = l.client; standing = t.standing; up = wire_after l.up most; down = sent l.down t.replies } in
      let turned : FramesServed → State = λ t. with_link s t.history k (link t) t.log in
      ap turned (turns_same x k _ (arrived l.up most) (all_last HadMemory s.log _ all))

  short_same : (step : Step) → AllByRecursion HadMemory (state_after x true s step).log → state_after x true s step ≡ state_after x false s step
  short_same (ToServer k most) all = delivery_same k most (slice_get s.links k) all
  short_same step all = refl

  pub step_is : (step : Step) (t : State) → StepsTo x s step t → AllByRecursion HadMemory t.log → t ≡ state_after x false s step
  step_is step t (fits, inl e) all = e
  step_is step t (fits, inr e) all = e ∙ short_same step (subst (λ (u : State). AllByRecursion HadMemory u.log) e all)

run_kept : (P : LogEntry → Type 0) (x : Setting) (s : State) (steps : List Step) (t : State) → RunsTo x s steps t → AllByRecursion P t.log → AllByRecursion P s.log
run_kept P x s [] t e all = subst (λ (u : State). AllByRecursion P u.log) (sym e) all
run_kept P x s (step ∷ steps) t r all = steps_kept x s P step r.0 r.1 (run_kept P x r.0 steps t r.2 all)

-- ---- runs

module _ (law : RetrievalGivesTheRecord) (x : Setting) (seeds : List (List ℕ)) where
  runs_like : (s t : State) (steps others : List Step) (s2 t2 : State) → IsStateLike s t → WorldInvariant x seeds s → WorldInvariant x seeds t
      → AllZip IsStepLike steps others → IsPlainRun x s steps others s2 → IsPlainRun x t others steps t2 → IsStateLike s2 t2
  runs_like s t [] [] s2 t2 a i j e r q = rw (← r.run, ← q.run) a
  runs_like s t (step ∷ steps) (other ∷ others) s2 t2 a i j e r q =
      let here = r.run in
      let there = q.run in
      let first = step_is x s step here.0 here.1 (run_kept HadMemory x here.0 steps s2 here.2 r.memory) in
      let second = step_is x t other there.0 there.1 (run_kept HadMemory x there.0 others t2 there.2 q.memory) in
      let like = after_like x s t a seeds i step other e.0 r.within.0 q.within.0 in
      runs_like here.0 there.0 steps others s2 t2
      (subst (λ (u : State). IsStateLike u there.0) (sym first) (subst (λ (u : State). IsStateLike (state_after x false s step) u) (sym second) like))
      (step_inv law x seeds s step here.0 here.1 i)
      (step_inv law x seeds t other there.0 there.1 j)
      e.1
      (record { run = here.2; memory = r.memory; within = subst (λ (u : State). AsksAreWithin x u steps others) (sym first) r.within.1 })
      (record { run = there.2; memory = q.memory; within = subst (λ (u : State). AsksAreWithin x u others steps) (sym second) q.within.1 })
  runs_like s t [] (other ∷ others) s2 t2 a i j e r q = absurd e
  runs_like s t (step ∷ steps) [] s2 t2 a i j e r q = absurd e

pub no_shape_changes : RetrievalGivesTheRecord → IndicesChangeNoShape
no_shape_changes law h bytes seeds steps others last last2 o e r q =
    let s = opening h bytes seeds in
    let i = opening_inv h bytes seeds o in
    (runs_like law (setting_in h) seeds s s steps others last last2 (state_itself s) i i e r q).logs
