-- What a log says of the entries before an entry, as it grows.
use Rattle.std.proofs.Common.{◌≡◌, ◌≢◌, ℕ, ◌+◌, Bool, false, cond, List, [], ◌∷◌, ◌++◌, Option, Some, None, refl, sym, ap, subst, ◌∙◌, append_assoc, arith}
use Rattle.std.specs.Prelude.{fold, is_some}
use Rattle.std.specs.List.{AllByRecursion}
use Rattle.std.proofs.lemmas.List.{append-nil}
use Rattle.std.proofs.lemmas.List.Sums.{fold-append}
use Rattle.std.proofs.lemmas.Bool.{cond_both, ne_eqb}
use Rattle.pir_schemes.specs.declared.scheme.Scheme.{Scheme}
use Rattle.frame_codec.specs.declared.frame.Frame.{Frame}
use Rattle.frame_codec.specs.declared.frame.Frame.TheVariants as frame
use Rattle.frame_codec.proofs.Runs.{all_append}
use Rattle.version_store.specs.Histories.{History}
use Rattle.server_core.specs.Serving.{Setting, is_closed}
use Rattle.client_core.specs.declared.state.ClientState.{ClientState}
use Rattle.client_core.specs.declared.state.Call.{Call}
use Rattle.client_core.specs.declared.state.Call.TheVariants.{Idle, Hello, Sync, Delta, Changes, Ask, Edit, Append, Publish}
use Rattle.client_core.specs.declared.state.Event.{Event}
use Rattle.client_core.specs.declared.state.Event.TheVariants.{Synced}
use Rattle.client_core.specs.declared.state.Reaction.{Reaction}
use Rattle.client_core.specs.declared.state.Reaction.TheVariants.{Asks, Reports, Fails}
use Rattle.client_core.specs.States.{scheme_held}
use Rattle.client_core.specs.Calls.{Ask as ask_call}
use Rattle.client_core.specs.Replies.{reaction_to_reply}
use Rattle.client_core.specs.Feeding.{fault_of}
use Rattle.pir_world.specs.declared.steps.Outcome.TheVariants.{Reported}
use Rattle.pir_world.specs.Runs.{ClientLink, FramesServed, AcceptedAsk, LogEntry, Called, Sent, Served, Ended, Plain, with_frame_served, reports, reacts}
use Rattle.pir_world.specs.Earlier.{AllWithEarlier, IsAside, IsSentLast, IsServedLast, is_ask, asks_of, hint_after, hint_named, IsAsked, HasEarlier}
use Rattle.pir_world.specs.Versions.{name_of_hint, seed_of}
use Rattle.pir_world.specs.Invariants.{IsFrom, LogInvariant, EachAfter}
use Rattle.pir_world.proofs.Receipts.{reported_by}
use Rattle.pir_world.proofs.Later.{IsLater}

-- ---- each entry, with those before it

pub each_more : (P : List LogEntry → LogEntry → Type 0) (before es more : List LogEntry) → EachAfter P before es → EachAfter P (before ++ es) more
    → EachAfter P before (es ++ more)
each_more P before [] more p q = subst (λ (b : List LogEntry). EachAfter P b more) (append-nil before) q
each_more P before (e ∷ es) more p q =
    (p.0, each_more P (before ++ e ∷ []) es more p.1 (subst (λ (b : List LogEntry). EachAfter P b more) (sym (append_assoc before (e ∷ []) es)) q))

earlier_of : (P : List LogEntry → LogEntry → Type 0) (start es : List LogEntry) → EachAfter P start es → (before after : List LogEntry) (e : LogEntry)
    → es ≡ before ++ e ∷ after → P (start ++ before) e
earlier_of P start [] p [] after e same = absurd cc
earlier_of P start [] p (b ∷ bs) after e same = absurd cc
earlier_of P start (y ∷ ys) p [] after e same =
    let first : y ≡ e = cc in
    subst (λ (b : List LogEntry). P b e) (sym (append-nil start)) (subst (λ (z : LogEntry). P start z) first p.0)
earlier_of P start (y ∷ ys) p (b ∷ bs) after e same =
    let first : y ≡ b = cc in
    let rest : ys ≡ bs ++ e ∷ after = cc in
    subst (λ (l : List LogEntry). P l e) (append_assoc start (b ∷ []) bs)
    (earlier_of P (start ++ b ∷ []) ys (subst (λ (z : LogEntry). EachAfter P (start ++ z ∷ []) ys) first p.1) bs after e rest)

pub all_with_earlier : (P : List LogEntry → LogEntry → Type 0) (log : List LogEntry) → EachAfter P [] log → AllWithEarlier P log
all_with_earlier P log p before after e same = earlier_of P [] log p before after e same

-- ---- entries beside a client's

aside_ask : (k : ℕ) (e : LogEntry) → IsAside k e → is_ask k e ≡ false
aside_ask k (Called j (ask_call i) None) p = ne_eqb j k p
aside_ask k (Called j (ask_call i) (Some fault)) p = refl
aside_ask k (Called j want refusal) p = refl
aside_ask k (Sent j f) p = refl
aside_ask k (Served j f now reply) p = refl
aside_ask k (Ended j r reply event) p = refl
aside_ask k (Plain o) p = refl

aside_hint : (k : ℕ) (hint : Option (Scheme × ℕ)) (e : LogEntry) → IsAside k e → hint_after k hint e ≡ hint
aside_hint k hint (Called j want refusal) p = refl
aside_hint k hint (Sent j (frame.HintAsk scheme version part)) p = rw (ne_eqb j k p) refl
aside_hint k hint (Sent j f) p = refl
aside_hint k hint (Served j f now reply) p = refl
aside_hint k hint (Ended j r reply event) p = refl
aside_hint k hint (Plain (Reported j (Synced scheme version))) p = rw (ne_eqb j k p) refl
aside_hint k hint (Plain (Reported j event)) p = refl
aside_hint k hint (Plain o) p = refl

-- entries of which none is an accepted ask
pub no_asks : (k n : ℕ) (es : List LogEntry) → AllByRecursion (λ e. is_ask k e ≡ false) es → fold (λ a e. a + cond (is_ask k e) 1 0) n es ≡ n
no_asks k n [] p = refl
no_asks k n (e ∷ es) p =
    let here : n + cond (is_ask k e) 1 0 ≡ n = rw p.0 (omega arith) in
    ap (λ (m : ℕ). fold (λ a e. a + cond (is_ask k e) 1 0) m es) here ∙ no_asks k n es p.1

pub same_number : (k n : ℕ) (log es : List LogEntry) → n ≡ asks_of k log → AllByRecursion (λ e. is_ask k e ≡ false) es → n ≡ asks_of k (log ++ es)
same_number k n log es e p = e ∙ sym (fold-append (λ a e. a + cond (is_ask k e) 1 0) 0 log es ∙ no_asks k (asks_of k log) es p)

asides_ask : (k : ℕ) (es : List LogEntry) → AllByRecursion (IsAside k) es → AllByRecursion (λ e. is_ask k e ≡ false) es
asides_ask k [] p = tt
asides_ask k (e ∷ es) p = (aside_ask k e p.0, asides_ask k es p.1)

asides_hint : (k : ℕ) (hint : Option (Scheme × ℕ)) (es : List LogEntry) → AllByRecursion (IsAside k) es → fold (hint_after k) hint es ≡ hint
asides_hint k hint [] p = refl
asides_hint k hint (e ∷ es) p = ap (λ (n : Option (Scheme × ℕ)). fold (hint_after k) n es) (aside_hint k hint e p.0) ∙ asides_hint k hint es p.1

pub hint_more : (k : ℕ) (log es : List LogEntry) → hint_named k (log ++ es) ≡ fold (hint_after k) (hint_named k log) es
hint_more k log es = fold-append (hint_after k) None log es

sent_aside : (k : ℕ) (f : Frame) (first log es : List LogEntry) → IsSentLast k f first log → AllByRecursion (IsAside k) es → IsSentLast k f first (log ++ es)
sent_aside k f first log es s p = record {
  since = s.since ++ es;
  log_is = ap (λ (l : List LogEntry). l ++ es) s.log_is ∙ append_assoc first (Sent k f ∷ s.since) es;
  aside = all_append (IsAside k) s.since es s.aside p;
}

served_aside : (k : ℕ) (f r : Frame) (first log es : List LogEntry) → IsServedLast k f r first log → AllByRecursion (IsAside k) es
    → IsServedLast k f r first (log ++ es)
served_aside k f r first log es s p = record {
  now = s.now;
  before = s.before;
  since = s.since ++ es;
  log_is = ap (λ (l : List LogEntry). l ++ es) s.log_is ∙ append_assoc s.before (Served k f s.now (Some r) ∷ s.since) es;
  sent = s.sent;
  aside = all_append (IsAside k) s.since es s.aside p;
}

-- what the log says of a client is so after entries beside its own
pub log_aside : (x : Setting) (h : History) (seed : List ℕ) (k : ℕ) (l : ClientLink) (log es : List LogEntry) → LogInvariant x h seed k l log
    → AllByRecursion (IsAside k) es → LogInvariant x h seed k l (log ++ es)
log_aside x h seed k l log es i p = record {
  number = same_number k l.client.number log es i.number (asides_ask k es p);
  hint = i.hint ∙ sym (hint_more k log es ∙ asides_hint k (hint_named k log) es p);
  sent = λ f e. let s = i.sent f e in (s.0, sent_aside k f s.0 log es s.1 p, s.2);
  served = λ r e. let s = i.served r e in (s.0, s.1, served_aside k s.0 r s.1 log es s.2 p, s.3);
}

-- and where only the ends of the wires differ
pub log_same : (x : Setting) (h : History) (seed : List ℕ) (k : ℕ) (l m : ClientLink) (log : List LogEntry) → m.client ≡ l.client → m.up.frames ≡ l.up.frames
    → m.down.frames ≡ l.down.frames → LogInvariant x h seed k l log → LogInvariant x h seed k m log
log_same x h seed k l m log c u d i = record {
  number = ap (λ (y : ClientState). y.number) c ∙ i.number;
  hint = ap (λ (y : ClientState). name_of_hint y.hint) c ∙ i.hint;
  sent = λ f e. let s = i.sent f (sym u ∙ e) in (s.0, s.1, subst (λ (y : ClientState). IsFrom x h seed k (scheme_held y.hint) y.call f s.0) (sym c) s.2);
  served = λ r e. let s = i.served r (sym d ∙ e) in (s.0, s.1, s.2, subst (λ (y : ClientState). IsFrom x h seed k (scheme_held y.hint) y.call s.0 s.1) (sym c) s.3);
}

-- ---- a client's steps are beside another's

module _ (j k : ℕ) (ne : k ≢ j) where
  reports_aside : (z : Scheme) (call : Call) (reply : Frame) (e : Event) → IsAside j (reports k z call reply e)
  reports_aside z (Ask i v n) reply e = ne
  reports_aside z Idle reply e = ne
  reports_aside z Hello reply e = ne
  reports_aside z (Sync scheme v p) reply e = ne
  reports_aside z (Delta since) reply e = ne
  reports_aside z (Changes since) reply e = ne
  reports_aside z Edit reply e = ne
  reports_aside z Append reply e = ne
  reports_aside z Publish reply e = ne

  reacts_aside : (z : Scheme) (call : Call) (reply : Frame) (r : Reaction) → AllByRecursion (IsAside j) (reacts k z call reply r)
  reacts_aside z call reply (Asks scheme version part) = (ne, tt)
  reacts_aside z call reply (Reports e) = (reports_aside z call reply e, tt)
  reacts_aside z call reply (Fails fault) = (ne, tt)

  pub reported_aside : (c : ClientState) (fs : List Frame) → AllByRecursion (IsAside j) (reported_by k c fs)
  reported_aside c [] = tt
  reported_aside c (f ∷ fs) =
      let t = reaction_to_reply c f in
      all_append (IsAside j) (reacts k (scheme_held c.hint) c.call f t.reaction) _ (reacts_aside (scheme_held c.hint) c.call f t.reaction)
      (cond_both (is_some (fault_of t.reaction)) [] (reported_by k t.state fs) (λ es. AllByRecursion (IsAside j) es) (λ e. tt) (λ e. reported_aside t.state fs))

  pub served_asides : (x : Setting) (short : Bool) (t : FramesServed) (fs : List Frame) → AllByRecursion (IsAside j) t.log
      → AllByRecursion (IsAside j) (fold (with_frame_served x short k) t fs).log
  served_asides x short t [] p = p
  served_asides x short t (f ∷ fs) p =
      served_asides x short (with_frame_served x short k t f) fs
      (cond_both (is_closed t.standing) _ _ (λ (u : FramesServed). AllByRecursion (IsAside j) u.log) (λ e. p)
      (λ e. all_append (IsAside j) t.log (Served k f _ _ ∷ []) p (ne, tt)))

-- ---- a later history

module _ (x : Setting) (h h2 : History) (later : IsLater h h2) where
  asked_later : (seed : List ℕ) (k : ℕ) (r : AcceptedAsk) (query : Frame) (log : List LogEntry) → IsAsked x h seed k r query log → IsAsked x h2 seed k r query log
  asked_later seed k r query log a = record {
    before = a.before;
    log_is = a.log_is;
    number_is = a.number_is;
    hint_is = a.hint_is;
    records = a.records;
    version_is = later _ _ a.version_is;
    query_is = a.query_is;
  }

  earlier_later : (seeds : List (List ℕ)) (before : List LogEntry) (e : LogEntry) → HasEarlier x seeds h before e → HasEarlier x seeds h2 before e
  earlier_later seeds before (Sent k (frame.Query scheme version words)) p = (p.0, asked_later (seed_of seeds k) k p.0 _ before p.1)
  earlier_later seeds before (Sent k (frame.Hello profile key)) p = p
  earlier_later seeds before (Sent k (frame.HintAsk scheme version part)) p = p
  earlier_later seeds before (Sent k (frame.DeltaAsk since)) p = p
  earlier_later seeds before (Sent k (frame.ChangesAsk since)) p = p
  earlier_later seeds before (Sent k f) p = absurd p
  earlier_later seeds before (Served k f now reply) p = p
  earlier_later seeds before (Ended k r reply event) p =
      record { query = p.query; first = p.first; asked = asked_later (seed_of seeds k) k r p.query p.first p.asked; served = p.served }
  earlier_later seeds before (Called k want refusal) p = tt
  earlier_later seeds before (Plain (Reported k event)) p = p
  earlier_later seeds before (Plain o) p = tt

  pub each_later : (seeds : List (List ℕ)) (before es : List LogEntry) → EachAfter (HasEarlier x seeds h) before es → EachAfter (HasEarlier x seeds h2) before es
  each_later seeds before [] p = tt
  each_later seeds before (e ∷ es) p = (earlier_later seeds before e p.0, each_later seeds (before ++ e ∷ []) es p.1)

  from_later : (seed : List ℕ) (k : ℕ) (z : Scheme) (call : Call) (f : Frame) (first : List LogEntry) → IsFrom x h seed k z call f first → IsFrom x h2 seed k z call f first
  from_later seed k z (Ask i v n) f first p = asked_later seed k _ f first p
  from_later seed k z Idle f first p = tt
  from_later seed k z Hello f first p = tt
  from_later seed k z (Sync scheme v n) f first p = p
  from_later seed k z (Delta since) f first p = p
  from_later seed k z (Changes since) f first p = p
  from_later seed k z Edit f first p = tt
  from_later seed k z Append f first p = tt
  from_later seed k z Publish f first p = tt

  pub log_later : (seed : List ℕ) (k : ℕ) (l : ClientLink) (log : List LogEntry) → LogInvariant x h seed k l log → LogInvariant x h2 seed k l log
  log_later seed k l log i = record {
    number = i.number;
    hint = i.hint;
    sent = λ f e. let s = i.sent f e in (s.0, s.1, from_later seed k (scheme_held l.client.hint) l.client.call f s.0 s.2);
    served = λ r e. let s = i.served r e in (s.0, s.1, s.2, from_later seed k (scheme_held l.client.hint) l.client.call s.0 s.1 s.3);
  }
