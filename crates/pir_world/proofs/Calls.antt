-- Calls that are accepted, and frames that arrive.
use Rattle.std.proofs.Common.{◌≡◌, ℕ, ◌<◌, Bool, true, false, cond, List, [], ◌∷◌, ◌++◌, Option, Some, None, refl, sym, ap, subst, ◌∙◌, arith, inl, inr}
use Rattle.std.specs.Prelude.{nat_lt, is_some, if◌then◌else◌}
use Rattle.std.specs.List.{AllByRecursion}
use Rattle.std.proofs.lemmas.List.{append-nil}
use Rattle.std.proofs.lemmas.Bool.{ltb-true, eqb-true}
use Rattle.pir_schemes.specs.declared.scheme.Scheme.{Scheme}
use Rattle.pir_schemes.specs.declared.scheme.Scheme.TheVariants.{Simple, Double}
use Rattle.pir_schemes.specs.Laws.{RetrievalGivesTheRecord}
use Rattle.frame_codec.specs.declared.frame.Frame.{Frame}
use Rattle.version_store.specs.Histories.{History}
use Rattle.server_core.specs.declared.standing.Standing.{Standing}
use Rattle.server_core.specs.declared.standing.Standing.TheVariants.{Reader}
use Rattle.server_core.specs.Serving.{Setting}
use Rattle.client_core.specs.declared.state.ClientState.{ClientState}
use Rattle.client_core.specs.declared.state.ServerInfo.{ServerInfo}
use Rattle.client_core.specs.declared.state.Hint.{Hint}
use Rattle.client_core.specs.declared.state.Call.{Call}
use Rattle.client_core.specs.declared.state.Call.TheVariants.{Idle, Hello, Sync, Delta, Changes, Ask, Edit, Append, Publish}
use Rattle.client_core.specs.States.{is_wide_client, is_idle, is_ready, known_version, known_count, scheme_held, simple_version, delta_base}
use Rattle.client_core.specs.Calls.{call_since, frame_since, call_refusal, sync_begun, sync_frame, state_after_call}
use Rattle.client_core.specs.Calls.{Hello as hello_call, Sync as sync_call, Ask as ask_call}
use Rattle.client_core.specs.Replies.{reaction_to_reply}
use Rattle.client_core.specs.Feeding.{takes_all, fault_of}
use Rattle.pir_world.specs.Runs.{Wire, ClientLink, LogEntry, sent, arrived, wire_after, reacts, reader_key}
use Rattle.pir_world.specs.Versions.{seed_of}
use Rattle.pir_world.specs.Headlines.{IsRight}
use Rattle.pir_world.specs.Invariants.{CallIs, DeltaIs, GoodHistory, KnownIs, SyncIs, IsReply, outstanding_frame, InFlight, IsDuringCall, LinkInvariant}
use Rattle.pir_world.proofs.Receipts.{reported_by}
use Rattle.pir_world.proofs.Wires.{none_arrives, one_arrives, Split, IsFew, split_few}
use Rattle.pir_world.proofs.Serves.{served_link}
use Rattle.pir_world.proofs.Takes.{ClientInv, taken, hint_long}
use Rattle.pir_world.proofs.Links.{link_called, link_reported, link_served, turn_of}

-- ---- an accepted call

idle_is : (call : Call) → is_idle call ≡ true → call ≡ Idle
idle_is Idle e = refl
idle_is Hello e = absurd cc
idle_is (Sync scheme v p) e = absurd cc
idle_is (Delta since) e = absurd cc
idle_is (Changes since) e = absurd cc
idle_is (Ask i v n) e = absurd cc
idle_is Edit e = absurd cc
idle_is Append e = absurd cc
idle_is Publish e = absurd cc

-- a hint of the version known is held
record Ready (k : Option ServerInfo) (o : Option Hint) : Type 0 where
  known : ServerInfo
  known_is : k ≡ Some known
  hint : Hint
  hint_is : o ≡ Some hint
  version_is : hint.version ≡ known.version

ready : (k : Option ServerInfo) (o : Option Hint) → is_ready k o ≡ true → Ready k o
ready None o e = absurd cc
ready (Some k) None e = absurd cc
ready (Some k) (Some y) e = record { known = k; known_is = refl; hint = y; hint_is = refl; version_is = eqb-true y.version k.version e }

-- an `if` that ends in None was taken there
then_none : {A : Type 0} (b : Bool) (x : Option A) (y : A) → (if b then x else Some y) ≡ None → (b ≡ true) × (x ≡ None)
then_none true x y e = (refl, e)
then_none false x y e = absurd cc

else_none : {A : Type 0} (b : Bool) (x : A) (y : Option A) → (if b then Some x else y) ≡ None → (b ≡ false) × (y ≡ None)
else_none true x y e = absurd cc
else_none false x y e = (refl, e)

idle_phase : (x : Setting) (h : History) (st : Standing) (seed : List ℕ) (c : ClientState) (call : Call) (up down : List Frame) → call ≡ Idle →
    IsDuringCall x h st seed c call up down → (up ≡ []) × (down ≡ [])
idle_phase x h st seed c call up down e p = let P : Call → Type 0 = λ y. IsDuringCall x h st seed c y up down in subst P e p

flight : (x : Setting) (h : History) (st : Standing) (seed : List ℕ) (c : ClientState) (call : Call) (up down : List Frame) → (up ≡ []) × (down ≡ []) →
    InFlight x h st seed c call (up ++ outstanding_frame c call ∷ []) down
flight x h st seed c call up down p = inl (rw p.0 refl, p.1)

first_parts : (x : Setting) (h : History) (st : Standing) (s : Scheme) (k : Option ServerInfo) → GoodHistory x h → KnownIs x h st k → is_some k ≡ true →
    SyncIs x h s (known_version k) 0 k []
first_parts x h st s None g k e = absurd cc
first_parts x h st s (Some y) g k e = record {
  k = y;
  known_is = refl;
  asked = refl;
  records = k.1.records;
  version_is = k.1.version_is;
  parts_are = refl;
  further = hint_long x s k.1.records (g.versions y.version k.1.records k.1.version_is).plan;
}

-- what a sync by delta goes from
pub record BaseIs (s : Scheme) (o : Option Hint) (since : ℕ) : Type 0 where
  pub scheme : s ≡ Simple
  pub hint : Hint
  pub held : o ≡ Some hint
  pub simple : hint.scheme ≡ Simple
  pub version : hint.version ≡ since

simple_base : (y : Hint) (z : Scheme) (since : ℕ) → y.scheme ≡ z → simple_version z y.version ≡ Some since → BaseIs Simple (Some y) since
simple_base y Simple since at e = record { scheme = refl; hint = y; held = refl; simple = at; version = some_number e }
  where
    some_number : {a b : ℕ} → Some a ≡ Some b → a ≡ b
    some_number e = cc
simple_base y Double since at e = absurd cc

pub base_is : (s : Scheme) (o : Option Hint) (since : ℕ) → delta_base s o ≡ Some since → BaseIs s o since
base_is Simple None since e = absurd cc
base_is Simple (Some y) since e = simple_base y y.scheme since refl e
base_is Double None since e = absurd cc
base_is Double (Some y) since e = absurd cc

some_known : (k : Option ServerInfo) → is_some k ≡ true → (y : ServerInfo) × (k ≡ Some y)
some_known None e = absurd cc
some_known (Some y) e = (y, refl)

-- what holds of a call that asks for what changed, of records in a wide client
since_is : (x : Setting) (h : History) (c : ClientState) (since : ℕ) (wide : Bool) → is_wide_client c ≡ wide → DeltaIs c since →
    CallIs x h c (call_since wide since)
since_is x h c since true e d = (d, e)
since_is x h c since false e d = d

since_flies : (x : Setting) (h : History) (st : Standing) (seed : List ℕ) (c : ClientState) (since : ℕ) (wide : Bool) (up down : List Frame) →
    InFlight x h st seed c (call_since wide since) up down → IsDuringCall x h st seed c (call_since wide since) up down
since_flies x h st seed c since true up down f = f
since_flies x h st seed c since false up down f = f

pub since_outstanding : (c : ClientState) (since : ℕ) (wide : Bool) → frame_since wide since ≡ outstanding_frame c (call_since wide since)
since_outstanding c since true = refl
since_outstanding c since false = refl

-- the link where a sync has begun
abbrev pub link_begun : Option ℕ → Scheme → ClientLink → ClientLink
link_begun base s l =
    record { client = sync_begun base s l.client; standing = l.standing; up = sent l.up (sync_frame base s l.client ∷ []); down = l.down }

module _ (x : Setting) (h : History) (seed : List ℕ) (l : ClientLink) (g : GoodHistory x h) (i : LinkInvariant x h seed l) where
  nothing_waits : l.client.call ≡ Idle → (l.up.frames ≡ []) × (l.down.frames ≡ [])
  nothing_waits e = idle_phase x h l.standing seed l.client l.client.call l.up.frames l.down.frames e i.phase

  pub called_hello : call_refusal (hello_call reader_key) l.client ≡ None → LinkInvariant x h seed (link_called (hello_call reader_key) l)
  called_hello e =
      let a = else_none l.client.failed _ _ e in
      let b = else_none (is_some l.client.known) _ _ a.1 in
      let d = then_none (is_idle l.client.call) _ _ b.1 in
      record {
        seed_is = i.seed_is;
        profile_is = i.profile_is;
        alive = i.alive;
        unclosed = i.unclosed;
        known = i.known;
        hint = i.hint;
        call = tt;
        phase = flight x h l.standing seed (state_after_call (hello_call reader_key) l.client) Hello l.up.frames l.down.frames
            (nothing_waits (idle_is l.client.call d.0));
      }

  -- a sync begins, by parts or by delta
  sync_begins : (base : Option ℕ) (scheme : Scheme) → delta_base scheme l.client.hint ≡ base → is_some l.client.known ≡ true → l.client.call ≡ Idle →
      LinkInvariant x h seed (link_begun base scheme l)
  sync_begins None scheme is known idle = record {
    seed_is = i.seed_is;
    profile_is = i.profile_is;
    alive = i.alive;
    unclosed = i.unclosed;
    known = i.known;
    hint = tt;
    call = first_parts x h l.standing scheme l.client.known g i.known known;
    phase = flight x h l.standing seed (sync_begun None scheme l.client) (Sync scheme (known_version l.client.known) 0) l.up.frames l.down.frames
        (nothing_waits idle);
  }
  sync_begins (Some since) scheme is known idle =
      let y = some_known l.client.known known in
      let b = base_is scheme l.client.hint since is in
      let c : ClientState = sync_begun (Some since) scheme l.client in
      let d : DeltaIs c since = record { k = y.0; known_is = y.1; hint = b.hint; hint_is = b.held; scheme_is = b.simple; version_is = b.version } in
      record {
        seed_is = i.seed_is;
        profile_is = i.profile_is;
        alive = i.alive;
        unclosed = i.unclosed;
        known = i.known;
        hint = i.hint;
        call = since_is x h c since (is_wide_client l.client) refl d;
        phase = since_flies x h l.standing seed c since (is_wide_client l.client) _ _
            (subst (λ (f : Frame). InFlight x h l.standing seed c (call_since (is_wide_client l.client) since) (l.up.frames ++ f ∷ []) l.down.frames)
            (sym (since_outstanding c since (is_wide_client l.client)))
            (flight x h l.standing seed c (call_since (is_wide_client l.client) since) l.up.frames l.down.frames (nothing_waits idle)));
      }

  pub called_sync : (scheme : Scheme) → call_refusal (sync_call scheme) l.client ≡ None → LinkInvariant x h seed (link_called (sync_call scheme) l)
  called_sync scheme e =
      let a = else_none l.client.failed _ _ e in
      let b = then_none (is_some l.client.known) _ _ a.1 in
      let d = then_none (is_idle l.client.call) _ _ b.1 in
      sync_begins (delta_base scheme l.client.hint) scheme refl b.0 (idle_is l.client.call d.0)

  pub called_ask : (j : ℕ) → call_refusal (ask_call j) l.client ≡ None → LinkInvariant x h seed (link_called (ask_call j) l)
  called_ask j e =
      let a = else_none l.client.failed _ _ e in
      let b = then_none (is_ready l.client.known l.client.hint) _ _ a.1 in
      let d = then_none (is_idle l.client.call) _ _ b.1 in
      let f = then_none (nat_lt j (known_count l.client.known)) _ _ d.1 in
      let r = ready l.client.known l.client.hint b.0 in
      let lt : j < known_count l.client.known = ltb-true j (known_count l.client.known) f.0 in
      let version : known_version l.client.known ≡ r.known.version = ap known_version r.known_is in
      record {
        seed_is = i.seed_is;
        profile_is = i.profile_is;
        alive = i.alive;
        unclosed = i.unclosed;
        known = i.known;
        hint = i.hint;
        call = record {
          k = r.known;
          known_is = r.known_is;
          asked = sym version;
          inside = omega (arith, lt, ap known_count r.known_is);
          hint = r.hint;
          hint_is = r.hint_is;
          version_is = r.version_is ∙ sym version;
        };
        phase = flight x h l.standing seed (state_after_call (ask_call j) l.client)
            (Ask j (known_version l.client.known) l.client.number) l.up.frames l.down.frames
            (nothing_waits (idle_is l.client.call d.0));
      }

-- ---- a delivery to the client

pub record ReportedLink (x : Setting) (seeds : List (List ℕ)) (h : History) (k : ℕ) (l : ClientLink) (es : List LogEntry) : Type 0 where
  pub link : LinkInvariant x h (seed_of seeds k) l
  pub right : AllByRecursion (IsRight x seeds h) es

module _ (law : RetrievalGivesTheRecord) (x : Setting) (seeds : List (List ℕ)) (k : ℕ) (h : History) (l : ClientLink) (g : GoodHistory x h)
    (i : LinkInvariant x h (seed_of seeds k) l) where
  client_inv : ClientInv x h (seed_of seeds k) l.standing l.client
  client_inv = record { seed_is = i.seed_is; profile_is = i.profile_is; alive = i.alive; known = i.known; hint = i.hint; call = i.call }

  -- the link where these replies arrive and this is after them
  abbrev with_replies : List Frame → Wire → ClientLink
  with_replies fs b = record {
    client = (takes_all l.client fs).state;
    standing = l.standing;
    up =
        record { frames = l.up.frames ++ (takes_all l.client fs).sends; got = l.up.got };
    down = b;
  }

  no_reply : (fs : List Frame) (b : Wire) → fs ≡ [] → b.frames ≡ l.down.frames → ReportedLink x seeds h k (with_replies fs b) (reported_by k l.client fs)
  no_reply fs b e d = rw e (record {
    link = record {
      seed_is = i.seed_is;
      profile_is = i.profile_is;
      alive = i.alive;
      unclosed = i.unclosed;
      known = i.known;
      hint = i.hint;
      call = i.call;
      phase =
          rw (append-nil, d) i.phase;
    };
    right = tt;
  })

  -- after a reply without a fault nothing more is reported of none
  abbrev reported_one : Frame → List LogEntry
  reported_one r = reported_by k l.client (r ∷ [])

  reported_one_is : (r : Frame) → fault_of (reaction_to_reply l.client r).reaction ≡ None →
      reported_one r ≡ reacts k (scheme_held l.client.hint) l.client.call r (reaction_to_reply l.client r).reaction
  reported_one_is r e = ap (λ (b : Bool). reacts k (scheme_held l.client.hint) l.client.call r (reaction_to_reply l.client r).reaction ++ cond b [] []) (ap is_some e) ∙ append-nil _

  one_reply : (fs : List Frame) (b : Wire) (r : Frame) → fs ≡ r ∷ [] → b.frames ≡ [] → l.up.frames ≡ [] →
      IsReply x h l.standing (seed_of seeds k) (scheme_held l.client.hint) l.client.call r
      → ReportedLink x seeds h k (with_replies fs b) (reported_by k l.client fs)
  one_reply fs b r e d u p =
      let t = taken law x seeds k h l.standing l.client g client_inv r p in
      rw e (record {
        link = record {
          seed_is = t.client.seed_is;
          profile_is = t.client.profile_is;
          alive = t.client.alive;
          unclosed = i.unclosed;
          known = t.client.known;
          hint = t.client.hint;
          call =
              t.client.call;
          phase = rw (u, d) t.phase;
        };
        right = subst (λ (es : List LogEntry). AllByRecursion (IsRight x seeds h) es) (sym (reported_one_is r t.no_fault)) t.right;
      })

  reported_flight : (most : ℕ) (call : Call) → call ≡ l.client.call → InFlight x h l.standing (seed_of seeds k) l.client call l.up.frames l.down.frames →
      ReportedLink x seeds h k (link_reported most l) (reported_by k l.client (arrived l.down most))
  reported_flight most call e (inl p) = let a = none_arrives l.down most p.1 in no_reply (arrived l.down most) (wire_after l.down most) a.0 (a.1 ∙ sym p.1)
  reported_flight most call e (inr p) = elim (one_arrives l.down most p.1.0 p.1.1) [
    | inl a ↦ no_reply (arrived l.down most) (wire_after l.down most) a.0 (a.1 ∙ sym p.1.1)
    | inr a ↦ one_reply (arrived l.down most) (wire_after l.down most) p.1.0 a.0 a.1 p.0
        (subst (λ (y : Call). IsReply x h l.standing (seed_of seeds k) (scheme_held l.client.hint) y p.1.0) e p.1.2)
  ]

  reported_phase : (most : ℕ) (call : Call) → call ≡ l.client.call → IsDuringCall x h l.standing (seed_of seeds k) l.client call l.up.frames l.down.frames →
      ReportedLink x seeds h k (link_reported most l) (reported_by k l.client (arrived l.down most))
  reported_phase most Idle e p = let a = none_arrives l.down most p.1 in no_reply (arrived l.down most) (wire_after l.down most) a.0 (a.1 ∙ sym p.1)
  reported_phase most Hello e p = reported_flight most Hello e p
  reported_phase most (Sync scheme v q) e p = reported_flight most (Sync scheme v q) e p
  reported_phase most (Delta since) e p = reported_flight most (Delta since) e p
  reported_phase most (Changes since) e p = reported_flight most (Changes since) e p
  reported_phase most (Ask j v m) e p = reported_flight most (Ask j v m) e p
  reported_phase most Edit e p = absurd p
  reported_phase most Append e p = absurd p
  reported_phase most Publish e p = absurd p

  pub reported_inv : (most : ℕ) → ReportedLink x seeds h k (link_reported most l) (reported_by k l.client (arrived l.down most))
  reported_inv most = reported_phase most l.client.call refl i.phase

  -- no prefix of the replies on their way makes a fault
  prefix_flight : (call : Call) (fs more : List Frame) → call ≡ l.client.call → Split l.down.frames fs more →
      InFlight x h l.standing (seed_of seeds k) l.client call l.up.frames l.down.frames → (takes_all l.client fs).fault ≡ None
  prefix_flight call fs more e (inl a) p = rw a.0 refl
  prefix_flight call fs more e (inr a) (inl p) = rw (a.0 ∙ p.1) refl
  prefix_flight call fs more e (inr a) (inr p) =
      let t = taken law x seeds k h l.standing l.client g client_inv p.1.0 (subst (λ (y : Call). IsReply x h l.standing (seed_of seeds k) (scheme_held l.client.hint) y p.1.0) e p.1.2) in
      rw (a.0 ∙ p.1.1) t.no_fault

  prefix_phase : (call : Call) (fs more : List Frame) → call ≡ l.client.call → Split l.down.frames fs more →
      IsDuringCall x h l.standing (seed_of seeds k) l.client call l.up.frames l.down.frames → (takes_all l.client fs).fault ≡ None
  prefix_phase Idle fs more e (inl a) p = rw a.0 refl
  prefix_phase Idle fs more e (inr a) p = rw (a.0 ∙ p.1) refl
  prefix_phase Hello fs more e a p = prefix_flight Hello fs more e a p
  prefix_phase (Sync scheme v q) fs more e a p = prefix_flight (Sync scheme v q) fs more e a p
  prefix_phase (Delta since) fs more e a p = prefix_flight (Delta since) fs more e a p
  prefix_phase (Changes since) fs more e a p = prefix_flight (Changes since) fs more e a p
  prefix_phase (Ask j v m) fs more e a p = prefix_flight (Ask j v m) fs more e a p
  prefix_phase Edit fs more e a p = absurd p
  prefix_phase Append fs more e a p = absurd p
  prefix_phase Publish fs more e a p = absurd p

  pub prefix_good : (fs more : List Frame) → Split l.down.frames fs more → (takes_all l.client fs).fault ≡ None
  prefix_good fs more a = prefix_phase l.client.call fs more refl a i.phase

-- ---- a delivery to the server

pub record ServedInv (x : Setting) (seeds : List (List ℕ)) (h : History) (seed : List ℕ) (l : ClientLink) (h2 : History) (es : List LogEntry) : Type 0 where
  pub link : LinkInvariant x h seed l
  pub history_is : h2 ≡ h
  pub right : AllByRecursion (IsRight x seeds h) es

known_then : (x : Setting) (h : History) (st st2 : Standing) (k : Option ServerInfo) → (st ≡ Reader → st2 ≡ Reader) → KnownIs x h st k → KnownIs x h st2 k
known_then x h st st2 None f k = tt
known_then x h st st2 (Some y) f k = (f k.0, k.1)

few_flight : (x : Setting) (h : History) (st : Standing) (seed : List ℕ) (c : ClientState) (call : Call) (up down : List Frame) →
    InFlight x h st seed c call up down → IsFew up × IsFew down
few_flight x h st seed c call up down (inl p) = (inr (outstanding_frame c call, p.0), inl p.1)
few_flight x h st seed c call up down (inr p) = (inl p.0, inr (p.1.0, p.1.1))

pub few_frames : (x : Setting) (h : History) (st : Standing) (seed : List ℕ) (c : ClientState) (call : Call) (up down : List Frame) →
    IsDuringCall x h st seed c call up down → IsFew up × IsFew down
few_frames x h st seed c Idle up down p = (inl p.0, inl p.1)
few_frames x h st seed c Hello up down p = few_flight x h st seed c Hello up down p
few_frames x h st seed c (Sync scheme v q) up down p = few_flight x h st seed c (Sync scheme v q) up down p
few_frames x h st seed c (Delta since) up down p = few_flight x h st seed c (Delta since) up down p
few_frames x h st seed c (Changes since) up down p = few_flight x h st seed c (Changes since) up down p
few_frames x h st seed c (Ask j v m) up down p = few_flight x h st seed c (Ask j v m) up down p
few_frames x h st seed c Edit up down p = absurd p
few_frames x h st seed c Append up down p = absurd p
few_frames x h st seed c Publish up down p = absurd p

pub served_inv : (short : Bool) (most : ℕ) (x : Setting) (seeds : List (List ℕ)) (k : ℕ) (h : History) (seed : List ℕ) (l : ClientLink) → GoodHistory x h → LinkInvariant x h seed l
    → ServedInv x seeds h seed (link_served x short k most h l) (turn_of x short k most h l).history (turn_of x short k most h l).log
served_inv short most x seeds k h seed l g i =
    let few = few_frames x h l.standing seed l.client l.client.call l.up.frames l.down.frames i.phase in
    let s = served_link x seeds k h seed l.standing l.client g short l.client.call l.up.frames (arrived l.up most) (wire_after l.up most).frames l.down.frames
    (split_few l.up most few.0) i.unclosed i.seed_is i.profile_is i.known i.hint i.call i.phase in
    record {
      link = record {
        seed_is = i.seed_is;
        profile_is = i.profile_is;
        alive = i.alive;
        unclosed = s.unclosed;
        known = known_then x h l.standing _ l.client.known s.reader i.known;
        hint =
            i.hint;
        call = i.call;
        phase = s.phase;
      };
      history_is = s.history_is;
      right = s.right;
    }
