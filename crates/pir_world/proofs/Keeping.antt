-- What each step keeps, and so each run.
use Rattle.std.proofs.Common.{◌≡◌, ◌≢◌, ℕ, ◌+◌, ◌^◌, ◌<◌, All, Bool, true, false, List, [], ◌∷◌, ◌++◌, length, Option, Some, None, refl, sym, ap, subst, ◌∙◌, arith, inl, inr}
use Rattle.std.specs.Prelude.{nat_lt, ◌==◌, slice_get, slice_set}
use Rattle.std.specs.List.{AllByRecursion}
use Rattle.std.proofs.lemmas.Bool.{cases_eq, cond_both}
use Rattle.pir_schemes.specs.Plans.{fits, shape_at}
use Rattle.pir_schemes.specs.Laws.{RetrievalGivesTheRecord}
use Rattle.version_store.specs.Histories.{History, current_version, after_edit, published, after_append}
use Rattle.server_core.specs.Serving.{Setting}
use Rattle.client_core.specs.declared.state.CallFault.{CallFault}
use Rattle.client_core.specs.Calls.{ClientCall, call_refusal, call_frame}
use Rattle.client_core.specs.Calls.{Hello as hello_call, Sync as sync_call, Ask as ask_call}
use Rattle.frame_codec.proofs.Runs.{all_append}
use Rattle.pir_world.specs.declared.steps.Step.{Step}
use Rattle.pir_world.specs.declared.steps.Step.TheVariants.{Edit, Append, Publish, Hello, Sync, Ask, ToServer, ToClient}
use Rattle.pir_world.specs.declared.steps.Outcome.{Outcome}
use Rattle.pir_world.specs.declared.steps.Outcome.TheVariants.{Edited, EditRefused, Appended, AppendRefused, Published, PublishRefused}
use Rattle.pir_world.specs.Runs.{State, ClientLink, LogEntry, Called, Sent, Plain, state_after, called_at, served_at, call_at, with_link, with_history, edit_after, append_after, publish_after, arrived, reader_key, HasBytes, StepsTo, RunsTo}
use Rattle.pir_world.specs.Earlier.{IsAside, HasEarlier}
use Rattle.pir_world.specs.Versions.{seed_of}
use Rattle.pir_world.specs.Headlines.{IsRight}
use Rattle.pir_world.specs.Invariants.{GoodHistory, LinkInvariant, LogInvariant, WorldInvariant}
use Rattle.pir_world.proofs.Receipts.{reported_by, reported_by_course, receipt_at}
use Rattle.pir_world.proofs.Later.{IsLater, later_published, same_history, newest, good_published, good_edited, link_later, entries_later, get_same, get_other, good_appended}
use Rattle.pir_world.proofs.Calls.{called_hello, called_sync, called_ask, reported_inv, served_inv}
use Rattle.pir_world.proofs.Logs.{each_more, each_later, log_aside, log_later, served_asides, reported_aside}
use Rattle.pir_world.proofs.Told.{Logged, logged_hello, logged_sync, logged_ask, logged_served, logged_reported}
use Rattle.digit_pack.specs.Layout.{is_layout}
use Rattle.pir_world.proofs.Links.{link_called, link_reported, link_served, turn_of}

module _ (x : Setting) (seeds : List (List ℕ)) (s : State) (inv : WorldInvariant x seeds s) where
  -- a client's link is replaced
  at_one : (k : ℕ) (l m : ClientLink) (h : History) (es : List LogEntry) → slice_get s.links k ≡ Some l → h ≡ s.history → LinkInvariant x s.history (seed_of seeds k) m →
      AllByRecursion (IsRight x seeds s.history) es
      → Logged x seeds s.history k m s.log es → ((j : ℕ) → k ≢ j → AllByRecursion (IsAside j) es) → WorldInvariant x seeds (with_link s h k m es)
  at_one k l m h es at e i right logged aside = rw e (record {
    history = inv.history;
    links = λ j y f. elim (cases_eq j k) [
      | inl same ↦ let P : ℕ → Type 0 = λ n. LinkInvariant x s.history (seed_of seeds n) y in
          subst P (sym same) (subst (λ (z : ClientLink). LinkInvariant x s.history (seed_of seeds k) z) (replaced j k l m y at same f) i)
      | inr other ↦ inv.links j y (sym (get_other s.links k j m other) ∙ f)
    ];
    logs = λ j y f. elim (cases_eq j k) [
      | inl same ↦ let P : ℕ → Type 0 = λ n. LogInvariant x s.history (seed_of seeds n) n y (s.log ++ es) in
          subst P (sym same) (subst (λ (z : ClientLink). LogInvariant x s.history (seed_of seeds k) k z (s.log ++ es)) (replaced j k l m y at same f) logged.kept)
      | inr other ↦ log_aside x s.history (seed_of seeds j) j y s.log es (inv.logs j y (sym (get_other s.links k j m other) ∙ f)) (aside j (λ e. other (sym e)))
    ];
    entries = all_append (IsRight x seeds s.history) s.log es inv.entries right;
    earlier = each_more (HasEarlier x seeds s.history) [] s.log es inv.earlier logged.earlier;
  })
    where
      replaced : (j k : ℕ) (l m y : ClientLink) → slice_get s.links k ≡ Some l → j ≡ k → slice_get (slice_set s.links k m) j ≡ Some y → m ≡ y
      replaced j k l m y at same f =
          let g : Some m ≡ Some y = sym (get_same s.links k m l at) ∙ ap (λ (n : ℕ). slice_get (slice_set s.links k m) n) (sym same) ∙ f in
          cc

  at_history : (h : History) (o : Outcome) → GoodHistory x h → IsLater s.history h → IsRight x seeds h (Plain o) → ((j : ℕ) → IsAside j (Plain o))
      → HasEarlier x seeds h s.log (Plain o) → WorldInvariant x seeds (with_history s h o)
  at_history h o g later right aside early = record {
    history = g;
    links = λ j y f. link_later x s.history h later (seed_of seeds j) y (inv.links j y f);
    logs = λ j y f. log_aside x h (seed_of seeds j) j y s.log (Plain o ∷ []) (log_later x s.history h later (seed_of seeds j) j y s.log (inv.logs j y f))
        (aside j, tt);
    entries = all_append (IsRight x seeds h) s.log (Plain o ∷ []) (entries_later x s.history h later seeds s.log inv.entries) (right, tt);
    earlier = each_more (HasEarlier x seeds h) [] s.log (Plain o ∷ []) (each_later x s.history h later seeds [] s.log inv.earlier) (early, tt);
  }

  -- a call that is accepted
  abbrev Accepted : ℕ → ClientCall → ClientLink → Type 0
  Accepted k w l =
      let m = link_called w l in
      LinkInvariant x s.history (seed_of seeds k) m × Logged x seeds s.history k m s.log (Called k w None ∷ Sent k (call_frame w l.client) ∷ [])

  call_inv : (k : ℕ) (w : ClientCall) (l : ClientLink) (f : Option CallFault) → slice_get s.links k ≡ Some l → call_refusal w l.client ≡ f
      → (call_refusal w l.client ≡ None → Accepted k w l) → WorldInvariant x seeds (call_at s k w l f)
  call_inv k w l (Some fault) at e called =
      at_one k l l s.history (Called k w (Some fault) ∷ []) at refl (inv.links k l at) (tt, tt)
      (record { kept = log_aside x s.history (seed_of seeds k) k l s.log (Called k w (Some fault) ∷ []) (inv.logs k l at) (tt, tt); earlier = (tt, tt) })
      (λ j ne. (tt, tt))
  call_inv k w l None at e called = let c = called e in at_one k l (link_called w l) s.history _ at refl c.0 (tt, (tt, tt)) c.1 (λ j ne. (ne, (ne, tt)))

  called_inv : (w : ClientCall) (k : ℕ) (o : Option ClientLink) → slice_get s.links k ≡ o
      → ((l : ClientLink) → LinkInvariant x s.history (seed_of seeds k) l → LogInvariant x s.history (seed_of seeds k) k l s.log → call_refusal w l.client ≡ None → Accepted k w l) →
      WorldInvariant x seeds (called_at s w k o)
  called_inv w k None at called = inv
  called_inv w k (Some l) at called = call_inv k w l (call_refusal w l.client) at refl (called l (inv.links k l at) (inv.logs k l at))

  served_at_inv : (short : Bool) (k most : ℕ) (o : Option ClientLink) → slice_get s.links k ≡ o → WorldInvariant x seeds (served_at x short s k most o)
  served_at_inv short k most None at = inv
  served_at_inv short k most (Some l) at =
      let d = served_inv short most x seeds k s.history (seed_of seeds k) l inv.history (inv.links k l at) in
      at_one k l (link_served x short k most s.history l) (turn_of x short k most s.history l).history
      (turn_of x short k most s.history l).log at d.history_is d.link d.right
      (logged_served x seeds s.history k l s.log (inv.logs k l at) short most (inv.links k l at))
      (λ j ne. served_asides j k ne x short _ (arrived l.up most) tt)

  reported_at_inv : RetrievalGivesTheRecord → (k most : ℕ) (o : Option ClientLink) → slice_get s.links k ≡ o → WorldInvariant x seeds (reported_by_course s k most o)
  reported_at_inv law k most None at = inv
  reported_at_inv law k most (Some l) at =
      let d = reported_inv law x seeds k s.history l inv.history (inv.links k l at) most in
      at_one k l (link_reported most l) s.history (reported_by k l.client (arrived l.down most)) at refl d.link d.right
      (logged_reported x seeds s.history k l s.log (inv.logs k l at) law inv.history most (inv.links k l at))
      (λ j ne. reported_aside j k ne l.client (arrived l.down most))

  edit_inv : (i : ℕ) (bytes : List ℕ) → All (λ b. b < 2 ^ 8) bytes → WorldInvariant x seeds (edit_after x s i bytes)
  edit_inv i bytes small =
      cond_both (nat_lt i (length s.history.draft)) _ _ (λ t. WorldInvariant x seeds t)
      (λ t. cond_both (fits x.plan bytes) _ _ (λ t. WorldInvariant x seeds t)
      (λ u. at_history (after_edit i bytes s.history) (Edited i) (good_edited x s.history i bytes (record { fits = u; each = small }) inv.history)
      (λ v records p. p) tt (λ j. tt) tt)
      (λ u. at_history s.history (EditRefused i _) inv.history (same_history s.history) tt (λ j. tt) tt))
      (λ t. at_history s.history (EditRefused i _) inv.history (same_history s.history) tt (λ j. tt) tt)

  append_inv : (bytes : List ℕ) → All (λ b. b < 2 ^ 8) bytes → WorldInvariant x seeds (append_after x s bytes)
  append_inv bytes small =
      cond_both (fits x.plan bytes) _ _ (λ t. WorldInvariant x seeds t)
      (λ t. cond_both (is_layout (shape_at x.plan (length s.history.draft + 1))) _ _ (λ t. WorldInvariant x seeds t)
      (λ u. at_history (after_append bytes s.history) Appended (good_appended x s.history bytes (record { fits = t; each = small }) u inv.history)
      (λ v records p. p) tt (λ j. tt) tt)
      (λ u. at_history s.history (AppendRefused _) inv.history (same_history s.history) tt (λ j. tt) tt))
      (λ t. at_history s.history (AppendRefused _) inv.history (same_history s.history) tt (λ j. tt) tt)

  publish_inv : WorldInvariant x seeds (publish_after s)
  publish_inv =
      cond_both s.history.marked _ _ (λ t. WorldInvariant x seeds t)
      (λ t. cond_both (current_version s.history + 1 == 2 ^ 64) _ _ (λ t. WorldInvariant x seeds t)
      (λ u. at_history s.history (PublishRefused _) inv.history (same_history s.history) tt (λ j. tt) tt)
      (λ u. at_history (published s.history) (Published (current_version s.history + 1)) (good_published x s.history inv.history) (later_published s.history)
      (new_version s.history) (λ j. tt) tt))
      (λ t. at_history s.history (PublishRefused _) inv.history (same_history s.history) tt (λ j. tt) tt)
    where
      new_version : (h : History) → IsRight x seeds (published h) (Plain (Published (current_version h + 1)))
      new_version h = let e : current_version (published h) ≡ current_version h + 1 = omega arith in (h.draft, let n = newest (published h) in rw (← e) n)

  pub after_inv : RetrievalGivesTheRecord → (short : Bool) (step : Step) → HasBytes step → WorldInvariant x seeds (state_after x short s step)
  after_inv law short (Edit i bytes) small = edit_inv i bytes small
  after_inv law short (Append bytes) small = append_inv bytes small
  after_inv law short Publish small = publish_inv
  after_inv law short (Hello k) small =
      called_inv (hello_call reader_key) k (slice_get s.links k) refl (λ l i g e. let n = called_hello x s.history (seed_of seeds k) l inv.history i e in
      (n, logged_hello x seeds s.history k l s.log g n))
  after_inv law short (Sync k scheme) small =
      called_inv (sync_call scheme) k (slice_get s.links k) refl (λ l i g e. let n = called_sync x s.history (seed_of seeds k) l inv.history i scheme e in
      (n, logged_sync x seeds s.history k l s.log g scheme n))
  after_inv law short (Ask k j) small =
      called_inv (ask_call j) k (slice_get s.links k) refl (λ l i g e. let n = called_ask x s.history (seed_of seeds k) l inv.history i j e in
      (n, logged_ask x seeds s.history k l s.log g j n))
  after_inv law short (ToServer k most) small = served_at_inv short k most (slice_get s.links k) refl
  after_inv law short (ToClient k most) small =
      subst (λ (t : State). WorldInvariant x seeds t) (sym (receipt_at s k most (slice_get s.links k))) (reported_at_inv law k most (slice_get s.links k) refl)

pub step_inv : RetrievalGivesTheRecord → (x : Setting) (seeds : List (List ℕ)) (s : State) (step : Step) (t : State) → StepsTo x s step t → WorldInvariant x seeds s →
    WorldInvariant x seeds t
step_inv law x seeds s step t (f, inl e) inv = rw e (after_inv x seeds s inv law false step f)
step_inv law x seeds s step t (f, inr e) inv = rw e (after_inv x seeds s inv law true step f)

pub run_inv : RetrievalGivesTheRecord → (x : Setting) (seeds : List (List ℕ)) (s : State) (steps : List Step) (t : State) → RunsTo x s steps t → WorldInvariant x seeds s →
    WorldInvariant x seeds t
run_inv law x seeds s [] t e inv = rw (← e) inv
run_inv law x seeds s (step ∷ steps) t r inv = run_inv law x seeds r.0 steps t r.2 (step_inv law x seeds s step r.0 r.1 inv)

pub run_more : (x : Setting) (s : State) (steps : List Step) (t : State) (step : Step) (u : State) → RunsTo x s steps t → StepsTo x t step u →
    RunsTo x s (steps ++ step ∷ []) u
run_more x s [] t step u e one = (u, subst (λ (a : State). StepsTo x a step u) (sym e) one, refl)
run_more x s (y ∷ ys) t step u e one = (e.0, e.1, run_more x e.0 ys t step u e.2 one)

pub stepped : (x : Setting) (short : Bool) (s : State) (step : Step) → HasBytes step → StepsTo x s step (state_after x short s step)
stepped x false s step f = (f, inl refl)
stepped x true s step f = (f, inr refl)
