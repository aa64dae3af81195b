-- What a client's own steps add to the log.
use Rattle.std.proofs.Common.{◌≡◌, ℕ, ◌+◌, Bool, true, false, List, [], ◌∷◌, ◌++◌, Option, Some, None, refl, sym, ap, subst, ◌∙◌, append_assoc, arith, inl, inr}
use Rattle.std.specs.Prelude.{cond, fold, option_to_list, is_some}
use Rattle.std.specs.List.{AllByRecursion}
use Rattle.std.proofs.lemmas.List.{append-nil}
use Rattle.std.proofs.lemmas.List.Sums.{fold-append}
use Rattle.std.proofs.lemmas.Bool.{eq-eqb}
use Rattle.pir_schemes.specs.declared.scheme.Scheme.{Scheme}
use Rattle.pir_schemes.specs.declared.scheme.Scheme.TheVariants.{Simple}
use Rattle.pir_schemes.specs.Schemes.{scheme_byte}
use Rattle.pir_schemes.specs.Laws.{RetrievalGivesTheRecord}
use Rattle.frame_codec.specs.declared.frame.Frame.{Frame}
use Rattle.frame_codec.specs.declared.frame.Frame.TheVariants as frame
use Rattle.version_store.specs.Histories.{History, current_version}
use Rattle.server_core.specs.declared.standing.Standing.{Standing}
use Rattle.server_core.specs.Serving.{Setting, is_closed}
use Rattle.client_core.specs.declared.state.ClientState.{ClientState}
use Rattle.client_core.specs.declared.state.Call.{Call}
use Rattle.client_core.specs.declared.state.Call.TheVariants.{Idle, Hello, Sync, Delta, Changes, Ask, Edit, Append, Publish}
use Rattle.client_core.specs.declared.state.Event.{Event}
use Rattle.client_core.specs.declared.state.Reaction.{Reaction}
use Rattle.client_core.specs.declared.state.Reaction.TheVariants.{Asks, Reports, Fails}
use Rattle.client_core.specs.States.{is_wide_client, known_version, scheme_held, delta_base}
use Rattle.client_core.specs.Calls.{ClientCall, call_since, frame_since, sync_begun, sync_frame, state_after_call, call_frame}
use Rattle.client_core.specs.Calls.{Hello as hello_call, Sync as sync_call, Ask as ask_call}
use Rattle.client_core.specs.Replies.{reaction_to_reply}
use Rattle.client_core.specs.Feeding.{takes_all, sends_of, fault_of}
use Rattle.pir_world.specs.Runs.{Wire, ClientLink, AcceptedAsk, LogEntry, Called, Sent, Served, arrived, wire_after, sent, serves, served_or, reports, reacts, reader_key}
use Rattle.pir_world.specs.Earlier.{IsSentLast, IsServedLast, is_ask, asks_of, hint_after, hint_named, IsAsked, HasEarlier, IsAskForChanges, IsAskForPart}
use Rattle.pir_world.specs.Versions.{name_of_hint, seed_of}
use Rattle.pir_world.specs.Invariants.{GoodHistory, IsReply, outstanding_frame, InFlight, IsDuringCall, LinkInvariant, IsFrom, LogInvariant, EachAfter}
use Rattle.pir_world.proofs.Receipts.{reported_by}
use Rattle.pir_world.proofs.Wires.{none_arrives, one_arrives}
use Rattle.pir_world.proofs.Serves.{ask_words}
use Rattle.pir_world.proofs.Takes.{ClientInv, IsTaken, IsPartBefore, one_alike, taken}
use Rattle.pir_world.proofs.Calls.{few_frames, link_begun, base_is, since_outstanding}
use Rattle.pir_world.proofs.Logs.{same_number, hint_more, log_same}
use Rattle.pir_world.proofs.Links.{turn_of, link_called, link_served, link_reported}

one_more : {X : Type 0} (xs : List X) (x : X) → xs ++ x ∷ [] ≡ [] → ⊥
one_more [] x e = cc
one_more (y ∷ ys) x e = cc

none_one : {X : Type 0} (xs : List X) (x : X) → xs ≡ [] → xs ≡ x ∷ [] → ⊥
none_one {X = X} xs x a b = let e : ◌≡◌ {A = List X} [] (x ∷ []) = sym a ∙ b in cc

-- what a step of client k leaves: what is said of it, and what came before each entry
pub record Logged (x : Setting) (seeds : List (List ℕ)) (h : History) (k : ℕ) (l : ClientLink) (log es : List LogEntry) : Type 0 where
  pub kept : LogInvariant x h (seed_of seeds k) k l (log ++ es)
  pub earlier : EachAfter (HasEarlier x seeds h) log es

-- ---- which way a frame is on

flight_up : (x : Setting) (h : History) (st : Standing) (seed : List ℕ) (c : ClientState) (call : Call) (up down : List Frame) (f : Frame) → up ≡ f ∷ []
    → InFlight x h st seed c call up down → down ≡ []
flight_up x h st seed c call up down f e (inl p) = p.1
flight_up x h st seed c call up down f e (inr p) = absurd (none_one up f p.0 e)

up_alone : (x : Setting) (h : History) (st : Standing) (seed : List ℕ) (c : ClientState) (call : Call) (up down : List Frame) (f : Frame) → up ≡ f ∷ []
    → IsDuringCall x h st seed c call up down → down ≡ []
up_alone x h st seed c Idle up down f e p = p.1
up_alone x h st seed c Hello up down f e p = flight_up x h st seed c Hello up down f e p
up_alone x h st seed c (Sync scheme v q) up down f e p = flight_up x h st seed c (Sync scheme v q) up down f e p
up_alone x h st seed c (Delta since) up down f e p = flight_up x h st seed c (Delta since) up down f e p
up_alone x h st seed c (Changes since) up down f e p = flight_up x h st seed c (Changes since) up down f e p
up_alone x h st seed c (Ask j v m) up down f e p = flight_up x h st seed c (Ask j v m) up down f e p
up_alone x h st seed c Edit up down f e p = absurd p
up_alone x h st seed c Append up down f e p = absurd p
up_alone x h st seed c Publish up down f e p = absurd p

-- a reply is on its way, and nothing else
abbrev IsComing : Setting → History → Standing → List ℕ → ClientState → Call → List Frame → Frame → Type 0
IsComing x h st seed c call up r = (up ≡ []) × IsReply x h st seed (scheme_held c.hint) call r

flight_down : (x : Setting) (h : History) (st : Standing) (seed : List ℕ) (c : ClientState) (call : Call) (up down : List Frame) (r : Frame) → down ≡ r ∷ []
    → InFlight x h st seed c call up down → IsComing x h st seed c call up r
flight_down x h st seed c call up down r e (inl p) = absurd (none_one down r p.1 e)
flight_down x h st seed c call up down r e (inr p) = (p.0, subst (λ (y : Frame). IsReply x h st seed (scheme_held c.hint) call y) (one_alike p.1.0 r (sym p.1.1 ∙ e)) p.1.2)

down_alone : (x : Setting) (h : History) (st : Standing) (seed : List ℕ) (c : ClientState) (call : Call) (up down : List Frame) (r : Frame) → down ≡ r ∷ []
    → IsDuringCall x h st seed c call up down → IsComing x h st seed c call up r
down_alone x h st seed c Idle up down r e p = absurd (none_one down r p.1 e)
down_alone x h st seed c Hello up down r e p = flight_down x h st seed c Hello up down r e p
down_alone x h st seed c (Sync scheme v q) up down r e p = flight_down x h st seed c (Sync scheme v q) up down r e p
down_alone x h st seed c (Delta since) up down r e p = flight_down x h st seed c (Delta since) up down r e p
down_alone x h st seed c (Changes since) up down r e p = flight_down x h st seed c (Changes since) up down r e p
down_alone x h st seed c (Ask j v m) up down r e p = flight_down x h st seed c (Ask j v m) up down r e p
down_alone x h st seed c Edit up down r e p = absurd p
down_alone x h st seed c Append up down r e p = absurd p
down_alone x h st seed c Publish up down r e p = absurd p

one_reply : (reply : Option Frame) (r : Frame) → option_to_list reply ≡ r ∷ [] → reply ≡ Some r
one_reply None r e = absurd cc
one_reply (Some y) r e = ap (λ (z : Frame). Some z) (one_alike y r e)

-- ---- what changed is asked for: records in a wide client, and rows in another one

since_in_flight : (x : Setting) (h : History) (st : Standing) (seed : List ℕ) (c : ClientState) (since : ℕ) (wide : Bool) (up down : List Frame) →
    IsDuringCall x h st seed c (call_since wide since) up down → InFlight x h st seed c (call_since wide since) up down
since_in_flight x h st seed c since true up down p = p
since_in_flight x h st seed c since false up down p = p

since_from : (x : Setting) (h : History) (seed : List ℕ) (k : ℕ) (s : Scheme) (since : ℕ) (wide : Bool) (first : List LogEntry) →
    IsFrom x h seed k s (call_since wide since) (frame_since wide since) first
since_from x h seed k s since true first = refl
since_from x h seed k s since false first = refl

since_keeps : (k : ℕ) (hint : Option (Scheme × ℕ)) (since : ℕ) (wide : Bool) → hint_after k hint (Sent k (frame_since wide since)) ≡ hint
since_keeps k hint since true = refl
since_keeps k hint since false = refl

since_earlier : (x : Setting) (seeds : List (List ℕ)) (h : History) (k : ℕ) (since : ℕ) (wide : Bool) (before : List LogEntry) →
    IsAskForChanges k since before → HasEarlier x seeds h before (Sent k (frame_since wide since))
since_earlier x seeds h k since true before p = p
since_earlier x seeds h k since false before p = p

-- ---- the entries of a reaction

reports_no_ask : (k : ℕ) (s : Scheme) (call : Call) (reply : Frame) (e : Event) → is_ask k (reports k s call reply e) ≡ false
reports_no_ask k s Idle reply e = refl
reports_no_ask k s Hello reply e = refl
reports_no_ask k s (Sync scheme v q) reply e = refl
reports_no_ask k s (Delta since) reply e = refl
reports_no_ask k s (Changes since) reply e = refl
reports_no_ask k s (Ask j v m) reply e = refl
reports_no_ask k s Edit reply e = refl
reports_no_ask k s Append reply e = refl
reports_no_ask k s Publish reply e = refl

reacts_no_ask : (k : ℕ) (s : Scheme) (call : Call) (reply : Frame) (t : Reaction) → AllByRecursion (λ e. is_ask k e ≡ false) (reacts k s call reply t)
reacts_no_ask k s call reply (Asks scheme version part) = (refl, tt)
reacts_no_ask k s call reply (Reports e) = (reports_no_ask k s call reply e, tt)
reacts_no_ask k s call reply (Fails fault) = (refl, tt)

reacts_sends : (k : ℕ) (s : Scheme) (call : Call) (reply : Frame) (t : Reaction) (f : Frame) → sends_of t ≡ f ∷ [] → reacts k s call reply t ≡ Sent k f ∷ []
reacts_sends k s call reply (Asks scheme version part) f e = ap (λ (y : Frame). Sent k y ∷ []) (one_alike _ f e)
reacts_sends k s call reply (Reports event) f e = absurd cc
reacts_sends k s call reply (Fails fault) f e = absurd cc

module _ (x : Setting) (seeds : List (List ℕ)) (h : History) (k : ℕ) (log first : List LogEntry) (reply f : Frame) (s : IsServedLast k f reply first log) where
  part_earlier : (scheme : Scheme) (version part : ℕ) (z : Scheme) (call : Call) → IsFrom x h (seed_of seeds k) k z call f first → IsPartBefore call reply scheme version part
      → IsAskForPart k (scheme_byte scheme) version part log
  part_earlier scheme version part z (Sync s2 v2 p) from a =
      let f_is : f ≡ frame.HintAsk (scheme_byte scheme) version p = from ∙ rw (a.0, a.1) refl in
      let asked : IsServedLast k (frame.HintAsk (scheme_byte scheme) version p) reply first log =
      subst (λ (y : Frame). IsServedLast k y reply first log) f_is s in
      inr (inl (first, p, a.3.0, a.2, subst (λ (y : Frame). IsServedLast k (frame.HintAsk (scheme_byte scheme) version p) y first log) a.3.1 asked))
  part_earlier scheme version part z (Delta since) from a =
      let asked : IsServedLast k (frame.DeltaAsk since) reply first log = subst (λ (y : Frame). IsServedLast k y reply first log) from s in
      inr (inr (
        first,
        since,
        a.2.0,
        frame.DeltaAsk since,
        ap scheme_byte a.0,
        a.1,
        inl refl,
        subst (λ (y : Frame). IsServedLast k (frame.DeltaAsk since) y first log) a.2.1 asked,
      ))
  part_earlier scheme version part z (Changes since) from a =
      let asked : IsServedLast k (frame.ChangesAsk since) reply first log = subst (λ (y : Frame). IsServedLast k y reply first log) from s in
      inr (inr (
        first,
        since,
        a.2.0,
        frame.ChangesAsk since,
        ap scheme_byte a.0,
        a.1,
        inr refl,
        subst (λ (y : Frame). IsServedLast k (frame.ChangesAsk since) y first log) a.2.1 asked,
      ))
  part_earlier scheme version part z Idle from a = absurd a
  part_earlier scheme version part z Hello from a = absurd a
  part_earlier scheme version part z (Ask j v m) from a = absurd a
  part_earlier scheme version part z Edit from a = absurd a
  part_earlier scheme version part z Append from a = absurd a
  part_earlier scheme version part z Publish from a = absurd a

  reacts_earlier : (t : Reaction) (z : Scheme) (call : Call) → IsFrom x h (seed_of seeds k) k z call f first
      → ((scheme : Scheme) (version part : ℕ) → t ≡ Asks scheme version part → IsPartBefore call reply scheme version part) →
      EachAfter (HasEarlier x seeds h) log (reacts k z call reply t)
  reacts_earlier (Asks scheme version part) z call from asks = (part_earlier scheme version part z call from (asks scheme version part refl), tt)
  reacts_earlier (Fails fault) z call from asks = (tt, tt)
  reacts_earlier (Reports event) z (Ask j v m) from asks = (record { query = f; first = first; asked = from; served = s }, tt)
  reacts_earlier (Reports event) z Idle from asks = ((f, reply, first, s), tt)
  reacts_earlier (Reports event) z Hello from asks = ((f, reply, first, s), tt)
  reacts_earlier (Reports event) z (Sync scheme v q) from asks = ((f, reply, first, s), tt)
  reacts_earlier (Reports event) z (Delta since) from asks = ((f, reply, first, s), tt)
  reacts_earlier (Reports event) z (Changes since) from asks = ((f, reply, first, s), tt)
  reacts_earlier (Reports event) z Edit from asks = ((f, reply, first, s), tt)
  reacts_earlier (Reports event) z Append from asks = ((f, reply, first, s), tt)
  reacts_earlier (Reports event) z Publish from asks = ((f, reply, first, s), tt)

module _ (x : Setting) (seeds : List (List ℕ)) (h : History) (k : ℕ) (l : ClientLink) (log : List LogEntry) (g : LogInvariant x h (seed_of seeds k) k l log) where
  -- ---- an accepted call

  abbrev called_state : ClientCall → ClientState
  called_state w = state_after_call w l.client

  -- what is written down of a call that sends a frame
  abbrev entries_of : ClientCall → Frame → List LogEntry
  entries_of w f = Called k w None ∷ Sent k f ∷ []

  abbrev called_entries : ClientCall → List LogEntry
  called_entries w = entries_of w (call_frame w l.client)

  sent_called : (w : ClientCall) (f : Frame) → IsSentLast k f (log ++ Called k w None ∷ []) (log ++ entries_of w f)
  sent_called w f = record { since = []; log_is = sym (append_assoc log (Called k w None ∷ []) (Sent k f ∷ [])); aside = tt }

  -- its frame alone is on its way
  called_up : (d : ClientState) (sends f : Frame) → InFlight x h l.standing (seed_of seeds k) d d.call (l.up.frames ++ sends ∷ []) l.down.frames
      → sends ≡ outstanding_frame d d.call → l.up.frames ++ sends ∷ [] ≡ f ∷ [] → sends ≡ f
  called_up d sends f (inl p) is e = is ∙ one_alike (outstanding_frame d d.call) f (sym p.0 ∙ e)
  called_up d sends f (inr p) is e = absurd (none_one _ f p.0 e)

  called_down : (d : ClientState) (sends r : Frame) → InFlight x h l.standing (seed_of seeds k) d d.call (l.up.frames ++ sends ∷ []) l.down.frames
      → l.down.frames ≡ r ∷ [] → ⊥
  called_down d sends r (inl p) e = none_one l.down.frames r p.1 e
  called_down d sends r (inr p) e = one_more l.up.frames sends p.0

  -- the link after a call that leads to a state and sends a frame
  abbrev link_with : ClientState → Frame → ClientLink
  link_with d f = record { client = d; standing = l.standing; up = sent l.up (f ∷ []); down = l.down }

  called_log : (w : ClientCall) (d : ClientState) (sends : Frame) → sends ≡ outstanding_frame d d.call
      → InFlight x h l.standing (seed_of seeds k) d d.call (l.up.frames ++ sends ∷ []) l.down.frames
      → d.number ≡ asks_of k (log ++ entries_of w sends) → name_of_hint d.hint ≡ hint_named k (log ++ entries_of w sends)
      → IsFrom x h (seed_of seeds k) k (scheme_held d.hint) d.call sends (log ++ Called k w None ∷ [])
      → LogInvariant x h (seed_of seeds k) k (link_with d sends) (log ++ entries_of w sends)
  called_log w d sends is flight number hint from = record {
    number = number;
    hint = hint;
    sent = λ f e. (
      log ++ Called k w None ∷ [],
      subst (λ (y : Frame). IsSentLast k y (log ++ Called k w None ∷ []) (log ++ entries_of w sends)) (called_up d sends f flight is e) (sent_called w sends),
      subst (λ (y : Frame). IsFrom x h (seed_of seeds k) k (scheme_held d.hint) d.call y (log ++ Called k w None ∷ [])) (called_up d sends f flight is e) from,
    );
    served = λ r e. absurd (called_down d sends r flight e);
  }

  pub logged_hello : LinkInvariant x h (seed_of seeds k) (link_called (hello_call reader_key) l)
      → Logged x seeds h k (link_called (hello_call reader_key) l) log (called_entries (hello_call reader_key))
  logged_hello n =
      let es = called_entries (hello_call reader_key) in
      let number = same_number k l.client.number log es g.number (refl, (refl, tt)) in
      record {
        kept = called_log (hello_call reader_key) (called_state (hello_call reader_key)) (call_frame (hello_call reader_key) l.client) refl n.phase number (g.hint ∙ sym (hint_more k log es)) tt;
        earlier = (tt, ((log, refl), tt));
      }

  -- a sync that begins by parts or by what changed
  begun : (base : Option ℕ) (s : Scheme) → delta_base s l.client.hint ≡ base → LinkInvariant x h (seed_of seeds k) (link_begun base s l)
      → Logged x seeds h k (link_begun base s l) log (entries_of (sync_call s) (sync_frame base s l.client))
  begun None s is n =
      let d = sync_begun None s l.client in
      let f = sync_frame None s l.client in
      let es = entries_of (sync_call s) f in
      let dropped : fold (hint_after k) (hint_named k log) es ≡ None = rw (eq-eqb k k refl) refl in
      record {
        kept = called_log (sync_call s) d f refl n.phase (same_number k l.client.number log es g.number (refl, (refl, tt))) (sym (hint_more k log es ∙ dropped)) refl;
        earlier = (tt, (inl (log, s, refl, refl, refl), tt));
      }
  begun (Some since) s is n =
      let d = sync_begun (Some since) s l.client in
      let f = sync_frame (Some since) s l.client in
      let es = entries_of (sync_call s) f in
      let b = base_is s l.client.hint since is in
      let named : hint_named k log ≡ Some (Simple, since) =
      sym g.hint ∙ ap name_of_hint b.held ∙ rw (b.simple, b.version) refl in
      let wide : Bool = is_wide_client l.client in
      record {
        kept = called_log (sync_call s) d f (since_outstanding d since wide) (since_in_flight x h l.standing (seed_of seeds k) d since wide _ _ n.phase)
            (same_number k l.client.number log es g.number (refl, (refl, tt)))
            (g.hint ∙ sym (hint_more k log es ∙ since_keeps k (hint_named k log) since wide)) (since_from x h (seed_of seeds k) k (scheme_held d.hint) since wide _);
        earlier = (
          tt,
          (
            since_earlier x seeds h k since wide _
                (log, ap (λ (z : Scheme). log ++ Called k (sync_call z) None ∷ []) b.scheme, named),
            tt,
          ),
        );
      }

  pub logged_sync : (s : Scheme) → LinkInvariant x h (seed_of seeds k) (link_called (sync_call s) l)
      → Logged x seeds h k (link_called (sync_call s) l) log (called_entries (sync_call s))
  logged_sync s n = begun (delta_base s l.client.hint) s refl n

  abbrev retrieval : ℕ → AcceptedAsk
  retrieval j = record { index = j; scheme = scheme_held l.client.hint; version = known_version l.client.known; number = l.client.number }

  asked : (j : ℕ) → LinkInvariant x h (seed_of seeds k) (link_called (ask_call j) l)
      → IsAsked x h (seed_of seeds k) k (retrieval j) (call_frame (ask_call j) l.client) (log ++ Called k (ask_call j) None ∷ [])
  asked j n =
      let s = scheme_held l.client.hint in
      let v = known_version l.client.known in
      let w = ask_words x seeds k h (seed_of seeds k) l.standing (called_state (ask_call j)) j s v l.client.number n.seed_is n.known n.hint n.call in
      let named : Some (n.call.hint.scheme, n.call.hint.version) ≡ Some (s, v) = rw (ap scheme_held n.call.hint_is, n.call.version_is) refl in
      record {
        before = log;
        log_is = refl;
        number_is = g.number;
        hint_is = sym g.hint ∙ ap name_of_hint n.call.hint_is ∙ named;
        records = w.0;
        version_is = w.1;
        query_is = ap (λ (ws : List ℕ). frame.Query (scheme_byte s) v ws) w.2;
      }

  pub logged_ask : (j : ℕ) → LinkInvariant x h (seed_of seeds k) (link_called (ask_call j) l)
      → Logged x seeds h k (link_called (ask_call j) l) log (called_entries (ask_call j))
  logged_ask j n =
      let es = called_entries (ask_call j) in
      let spent : asks_of k (log ++ es) ≡ asks_of k log + 1 + 0 = fold-append (λ a e. a + cond (is_ask k e) 1 0) 0 log es ∙ rw (eq-eqb k k refl) refl in
      let a = asked j n in
      record {
        kept = called_log (ask_call j) (called_state (ask_call j)) (call_frame (ask_call j) l.client) refl n.phase (omega (arith, spent, g.number)) (g.hint ∙ sym (hint_more k log es)) a;
        earlier = (tt, ((_, a), tt));
      }

  -- ---- a delivery to the server

  served_entry : (f : Frame) (reply : Option Frame) (st : Standing) (b d : Wire) → l.up.frames ≡ f ∷ [] → b.frames ≡ [] → d.frames ≡ option_to_list reply
      → Logged x seeds h k (record { client = l.client; standing = st; up = b; down = d }) log (Served k f (current_version h) reply ∷ [])
  served_entry f reply st b d at u e =
      let s = g.sent f at in
      record {
        kept = record {
          number = same_number k l.client.number log (Served k f (current_version h) reply ∷ []) g.number (refl, tt);
          hint = g.hint ∙ sym (hint_more k log (Served k f (current_version h) reply ∷ []));
          sent = λ f2 e2. absurd (none_one b.frames f2 u e2);
          served = λ r e2. (
            f,
            s.0,
            record {
              now = current_version h;
              before = log;
              since = [];
              log_is = ap (λ (o : Option Frame). log ++ Served k f (current_version h) o ∷ []) (one_reply reply r (sym e ∙ e2));
              sent = s.1;
              aside = tt;
            },
            s.2,
          );
        };
        earlier = ((s.0, s.1), tt);
      }

  abbrev served_link : Bool → List Frame → Wire → ClientLink
  served_link short fs b =
      let t = serves x short k h l.standing fs in
      record { client = l.client; standing = t.standing; up = b; down = sent l.down t.replies }

  served_one : (short : Bool) (f : Frame) (fs : List Frame) (b : Wire) → fs ≡ f ∷ [] → is_closed l.standing ≡ false → l.up.frames ≡ f ∷ []
      → l.down.frames ≡ [] → b.frames ≡ []
      → Logged x seeds h k (served_link short fs b) log (serves x short k h l.standing fs).log
  served_one short f fs b e o at d u =
      rw (e, o) (served_entry f _ _ b _ at u (ap (λ (z : List Frame). z ++ option_to_list (served_or short x h l.standing f).reply) d))

  -- nothing arrives
  log_nothing : (m : ClientLink) → m.client ≡ l.client → m.up.frames ≡ l.up.frames → m.down.frames ≡ l.down.frames → Logged x seeds h k m log []
  log_nothing m c u d = record {
    kept = subst (λ (es : List LogEntry). LogInvariant x h (seed_of seeds k) k m es) (sym (append-nil log)) (log_same x h (seed_of seeds k) k l m log c u d g);
    earlier = tt;
  }

  served_none : (short : Bool) (fs : List Frame) (b : Wire) → fs ≡ [] → b.frames ≡ l.up.frames
      → Logged x seeds h k (served_link short fs b) log (serves x short k h l.standing fs).log
  served_none short fs b e u = rw e (log_nothing _ refl u (append-nil l.down.frames))

  pub logged_served : (short : Bool) (most : ℕ) → LinkInvariant x h (seed_of seeds k) l
      → Logged x seeds h k (link_served x short k most h l) log (turn_of x short k most h l).log
  logged_served short most i =
      let few = (few_frames x h l.standing (seed_of seeds k) l.client l.client.call l.up.frames l.down.frames i.phase).0 in
      elim few [
        | inl e ↦ let a = none_arrives l.up most e in served_none short (arrived l.up most) (wire_after l.up most) a.0 (a.1 ∙ sym e)
        | inr p ↦ elim (one_arrives l.up most p.0 p.1) [
          | inl a ↦ served_none short (arrived l.up most) (wire_after l.up most) a.0 (a.1 ∙ sym p.1)
          | inr a ↦ served_one short p.0 (arrived l.up most) (wire_after l.up most) a.0 i.unclosed p.1
              (up_alone x h l.standing (seed_of seeds k) l.client l.client.call l.up.frames l.down.frames p.0 p.1 i.phase) a.1
        ]
      ]

  -- ---- a delivery to the client

  replied : (r : Frame) (m : ClientLink) (es : List LogEntry) → m.client ≡ (reaction_to_reply l.client r).state
      → m.up.frames ≡ sends_of (reaction_to_reply l.client r).reaction → m.down.frames ≡ [] → l.down.frames ≡ r ∷ []
      → IsTaken x seeds k h l.standing l.client l.client.call r (reaction_to_reply l.client r)
      → es ≡ reacts k (scheme_held l.client.hint) l.client.call r (reaction_to_reply l.client r).reaction → Logged x seeds h k m log es
  replied r m es c u d at t is =
      let reaction = (reaction_to_reply l.client r).reaction in
      let s = g.served r at in
      record {
        kept = record {
          number = same_number k m.client.number log es (ap (λ (y : ClientState). y.number) c ∙ t.number ∙ g.number)
              (subst (λ (z : List LogEntry). AllByRecursion (λ e. is_ask k e ≡ false) z) (sym is) (reacts_no_ask k (scheme_held l.client.hint) l.client.call r reaction));
          hint =
              ap (λ (y : ClientState). name_of_hint y.hint) c ∙ t.told
              ∙ ap (λ (n : Option (Scheme × ℕ)). fold (hint_after k) n (reacts k (scheme_held l.client.hint) l.client.call r reaction)) g.hint
              ∙ ap (λ (z : List LogEntry). fold (hint_after k) (hint_named k log) z) (sym is)
              ∙ sym (hint_more k log es);
          sent = λ f e. (
            log,
            record { since = []; log_is = ap (λ (z : List LogEntry). log ++ z) (is ∙ reacts_sends k (scheme_held l.client.hint) l.client.call r reaction f (sym u ∙ e)); aside = tt },
            subst (λ (y : ClientState). IsFrom x h (seed_of seeds k) k (scheme_held y.hint) y.call f log) (sym c) (t.next f log (sym u ∙ e)),
          );
          served = λ r2 e. absurd (none_one m.down.frames r2 d e);
        };
        earlier = subst (λ (z : List LogEntry). EachAfter (HasEarlier x seeds h) log z) (sym is)
            (reacts_earlier x seeds h k log s.1 r s.0 s.2 reaction (scheme_held l.client.hint) l.client.call s.3 t.asks);
      }

  -- what is reported and sent at one reply without a fault
  reported_is : (r : Frame) → fault_of (reaction_to_reply l.client r).reaction ≡ None
      → reported_by k l.client (r ∷ []) ≡ reacts k (scheme_held l.client.hint) l.client.call r (reaction_to_reply l.client r).reaction
  reported_is r e = ap (λ (b : Bool). reacts k (scheme_held l.client.hint) l.client.call r (reaction_to_reply l.client r).reaction ++ cond b [] []) (ap is_some e) ∙ append-nil _

  abbrev reported_link : List Frame → Wire → ClientLink
  reported_link fs b = record { client = (takes_all l.client fs).state; standing = l.standing; up = sent l.up (takes_all l.client fs).sends; down = b }

  reported_one : (r : Frame) (fs : List Frame) (b : Wire) → fs ≡ r ∷ [] → b.frames ≡ [] → l.up.frames ≡ [] → l.down.frames ≡ r ∷ []
      → IsTaken x seeds k h l.standing l.client l.client.call r (reaction_to_reply l.client r)
      → Logged x seeds h k (reported_link fs b) log (reported_by k l.client fs)
  reported_one r fs b e d u at t =
      rw e (replied r (reported_link (r ∷ []) b) (reported_by k l.client (r ∷ [])) refl
      (ap (λ (z : List Frame). z ++ sends_of (reaction_to_reply l.client r).reaction) u) d at t (reported_is r t.no_fault))

  reported_none : (fs : List Frame) (b : Wire) → fs ≡ [] → b.frames ≡ l.down.frames → Logged x seeds h k (reported_link fs b) log (reported_by k l.client fs)
  reported_none fs b e d = rw e (log_nothing (reported_link [] b) refl (append-nil l.up.frames) d)

  pub logged_reported : RetrievalGivesTheRecord → GoodHistory x h → (most : ℕ) → LinkInvariant x h (seed_of seeds k) l
      → Logged x seeds h k (link_reported most l) log (reported_by k l.client (arrived l.down most))
  logged_reported law good most i =
      let few = (few_frames x h l.standing (seed_of seeds k) l.client l.client.call l.up.frames l.down.frames i.phase).1 in
      let inv : ClientInv x h (seed_of seeds k) l.standing l.client =
      record { seed_is = i.seed_is; profile_is = i.profile_is; alive = i.alive; known = i.known; hint = i.hint; call = i.call } in
      elim few [
        | inl e ↦ let a = none_arrives l.down most e in reported_none (arrived l.down most) (wire_after l.down most) a.0 (a.1 ∙ sym e)
        | inr p ↦ elim (one_arrives l.down most p.0 p.1) [
          | inl a ↦ reported_none (arrived l.down most) (wire_after l.down most) a.0 (a.1 ∙ sym p.1)
          | inr a ↦
              let comes = down_alone x h l.standing (seed_of seeds k) l.client l.client.call l.up.frames l.down.frames p.0 p.1 i.phase in
              reported_one p.0 (arrived l.down most) (wire_after l.down most) a.0 a.1 comes.0 p.1 (taken law x seeds k h l.standing l.client good inv p.0 comes.1)
        ]
      ]
