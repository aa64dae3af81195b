-- What deliveries do to a client's end.
use Rattle.std.proofs.Common.{◌≡◌, ℕ, ◌⊎◌, Bool, true, false, List, [], ◌∷◌, ◌++◌, length, min, Option, Some, None, Result, Ok, Err, refl, sym, ap, subst, ◌∙◌, inl, inr}
use Rattle.std.specs.Prelude.{MatchBool, is_some, cond}
use Rattle.std.specs.List.{flat_map, AllByRecursion}
use Rattle.std.proofs.lemmas.List.{append-nil}
use Rattle.frame_codec.specs.declared.frame.Frame.{Frame}
use Rattle.frame_codec.specs.declared.reader.ReadFault.{ReadFault}
use Rattle.frame_codec.specs.declared.reader.ReadFault.TheVariants as read_fault
use Rattle.frame_codec.specs.Frames.{IsFrame, encoding}
use Rattle.frame_codec.specs.Streams.{Feeds, IsFrameOf}
use Rattle.version_store.specs.Histories.{History, StoreState, StandsFor}
use Rattle.server_core.specs.declared.standing.Standing.{Standing}
use Rattle.server_core.specs.Serving.{Setting, setting_of, ServesAll, is_closed}
use Rattle.server_core.specs.Sessions.{Session, FeedsStore, ServesPiece, AfterReading}
use Rattle.client_core.specs.declared.state.ClientState.{ClientState}
use Rattle.client_core.specs.declared.state.ClientFault.{ClientFault}
use Rattle.client_core.specs.declared.state.ClientFault.TheVariants.{Memory}
use Rattle.client_core.specs.declared.state.Event.{Event}
use Rattle.client_core.specs.Feeding.{Client, Course, takes_all, FeedsOpen, FeedsFailed, Follows, Gives, ends_with, failing}
use Rattle.pir_world.specs.Runs.{ClientLink, serves, arrived, wire_after, sent}
use Rattle.pir_schemes.specs.Laws.{RetrievalGivesTheRecord}
use Rattle.pir_world.specs.Versions.{seed_of}
use Rattle.pir_world.specs.Invariants.{GoodHistory, LinkInvariant}
use Rattle.pir_world.specs.Sides.{Side, Carries, EndIs, TakesDelivery, prefix, rest}
use Rattle.client_core.specs.States.{is_wide_client}
use Rattle.server_core.specs.Serving.{is_wide_setting}
use Rattle.pir_world.proofs.FrameKinds.{all_frames, profile_wide, sends_known, turn_known}
use Rattle.pir_world.proofs.Bytes.{delivered, memory_alone, prefix_read, carries_more}
use Rattle.pir_world.proofs.Wires.{Split, IsFew, split_prefix}
use Rattle.pir_world.proofs.Serves.{served_link}
use Rattle.pir_world.proofs.Calls.{few_frames, prefix_good}
use Rattle.pir_world.proofs.Links.{link_reported, turn_of, link_served}

-- ---- the client

-- what a delivery to the client leaves where it had no fault
pub record EndReported (wide : Bool) (e : Side) (session : Session) (l : ClientLink) (most : ℕ) (events : List Event) : Type 0 where
  pub end_is : EndIs wide e session (link_reported most l)
  pub events_are : events ≡ (takes_all l.client (arrived l.down most)).events
  pub good : (takes_all l.client (arrived l.down most)).fault ≡ None

module _ (law : RetrievalGivesTheRecord) (x : Setting) (seeds : List (List ℕ)) (k : ℕ) (h : History) (l : ClientLink) (g : GoodHistory x h)
    (inv : LinkInvariant x h (seed_of seeds k) l) (e e2 : Side) (session : Session) (most : ℕ) (i : EndIs (is_wide_setting x) e session l) where
  abbrev Reported : List Event → Option ClientFault → Type 0
  Reported events fault = (fault ≡ Some Memory) ⊎ ((fault ≡ None) × EndReported (is_wide_setting x) e2 session l most events)

  -- the frames read are good replies
  read_good : (answer : Result (Unit {0}) ReadFault) (frames : List Frame) → Feeds (is_wide_setting x) e.client.reader (prefix most e.down) answer frames e2.client.reader →
      (takes_all e.client.state frames).fault ≡ None
  read_good answer frames reads =
      let m : ℕ = min most (length e.down) in
      let r = prefix_read (is_wide_setting x) e.client.reader e.down l.down m answer frames e2.client.reader i.down reads in
      let few = few_frames x h l.standing (seed_of seeds k) l.client l.client.call l.up.frames l.down.frames inv.phase in
      let f : (takes_all l.client frames).fault ≡ None = prefix_good law x seeds k h l g inv frames r.0 (split_prefix l.down.frames frames r.0 few.1 r.1) in
      subst (λ (c : ClientState). (takes_all c frames).fault ≡ None) (sym i.client_is) f

  reported_well : (frames : List Frame) (done : Unit {0}) → Feeds (is_wide_setting x) e.client.reader (prefix most e.down) (Ok done) frames e2.client.reader →
      (out : List ℕ) (events : List Event)
      → Gives (takes_all e.client.state frames) out events → e2.client.state ≡ (takes_all e.client.state frames).state →
      (takes_all e.client.state frames).fault ≡ None
      → e2.up ≡ e.up ++ out → e2.down ≡ rest most e.down → EndReported (is_wide_setting x) e2 session l most events
  reported_well frames done reads out events gives state good up down =
      let d = delivered (is_wide_setting x) e.client.reader e.down l.down most (min most (length e.down)) frames e2.client.reader refl i.down reads in
      let same : takes_all e.client.state frames ≡ takes_all l.client (arrived l.down most) = ap (λ (c : ClientState). takes_all c frames) i.client_is
      ∙ ap (λ (fs : List Frame). takes_all l.client fs) d.frames_are in
      let each : AllByRecursion (IsFrameOf (is_wide_setting x)) (takes_all l.client (arrived l.down most)).sends =
      all_frames (is_wide_setting x) _ (subst (λ (c : Course). AllByRecursion IsFrame c.sends) same gives.each)
      (sends_known (is_wide_setting x) l.client (arrived l.down most)) in
      let more : e2.up ≡ e.up ++ flat_map encoding (takes_all l.client (arrived l.down most)).sends = up
      ∙ ap (λ (b : List ℕ). e.up ++ b) (gives.written ∙ ap (λ (c : Course). flat_map encoding c.sends) same) in
      record {
        end_is = record {
          client_is = state ∙ ap (λ (c : Course). c.state) same;
          standing_is = i.standing_is;
          up = subst (λ (b : List ℕ). Carries (is_wide_setting x) session.unfinished b (sent l.up (takes_all l.client (arrived l.down most)).sends)) (sym more)
              (carries_more (is_wide_setting x) session.unfinished e.up l.up (takes_all l.client (arrived l.down most)).sends each i.up);
          down = subst (λ (b : List ℕ). Carries (is_wide_setting x) e2.client.reader b (wire_after l.down most)) (sym down) d.rest;
        };
        events_are = gives.reported ∙ ap (λ (c : Course). c.events) same;
        good = sym (ap (λ (c : Course). c.fault) same) ∙ good;
      }

  -- a course without a fault fails for lack of memory after it
  fails_after : (c : Course) → c.fault ≡ None → (failing c (Some Memory)).fault ≡ Some Memory
  fails_after c e = ap (λ (o : Option ClientFault). (cond (is_some o) c (record c { state = record c.state { failed = true }; fault = Some Memory })).fault) e

  followed : (answer : Result (Unit {0}) ReadFault) (frames : List Frame) → Feeds (is_wide_setting x) e.client.reader (prefix most e.down) answer frames e2.client.reader →
      (out : List ℕ) (events : List Event) (fault : Option ClientFault)
      → Follows (ends_with (takes_all e.client.state frames) answer) out events fault e2.client.state → e2.up ≡ e.up ++ out → e2.down ≡ rest most e.down →
      Reported events fault
  followed (Ok done) frames reads out events fault f up down =
      let good = read_good (Ok done) frames reads in
      inr (f.fault_is ∙ good, reported_well frames done reads out events f.gives f.state good up down)
  followed (Err stop) frames reads out events fault f up down =
      let only : stop ≡ read_fault.Memory = memory_alone (is_wide_setting x) e.client.reader e.down l.down (min most (length e.down)) stop frames e2.client.reader i.down reads in
      let at : fault ≡ (ends_with (takes_all e.client.state frames) (Err read_fault.Memory)).fault = f.fault_is
      ∙ ap (λ (r : ReadFault). (ends_with (takes_all e.client.state frames) (Err r)).fault) only in
      inl (at ∙ fails_after (takes_all e.client.state frames) (read_good (Err stop) frames reads))

  pub reported_end : (out : List ℕ) (events : List Event) (fault : Option ClientFault) → TakesDelivery most e out events fault e2 → Reported events fault
  reported_end out events fault t =
      let alive : e.client.state.failed ≡ false = ap (λ (c : ClientState). c.failed) i.client_is ∙ inv.alive in
      let wide : is_wide_client e.client.state ≡ is_wide_setting x =
      ap is_wide_client i.client_is ∙ profile_wide x.plan l.client.profile inv.profile_is in
      let f : FeedsOpen e.client (prefix most e.down) out events fault e2.client =
      subst (λ (b : Bool). MatchBool b (FeedsFailed e.client out events fault e2.client)
      (FeedsOpen e.client (prefix most e.down) out events fault e2.client)) alive t.fed in
      elim f.takes [
        | inl w ↦ followed f.answer f.frames (subst (λ (b : Bool). Feeds b e.client.reader (prefix most e.down) f.answer f.frames e2.client.reader) wide f.reads) out events fault w t.up t.down
        | inr b ↦ inl b.fault_is
      ]

-- ---- the server

-- the server's turn over frames of which there is at most one
pub record IsTurn (x : Setting) (k : ℕ) (h : History) (st : Standing) (fs : List Frame) (h2 : History) (st2 : Standing) (rs : List Frame) : Type 0 where
  pub short : Bool
  pub history_is : h2 ≡ (serves x short k h st fs).history
  pub standing_is : st2 ≡ (serves x short k h st fs).standing
  pub replies_are : rs ≡ (serves x short k h st fs).replies

one_turn : (x : Setting) (k : ℕ) (h : History) (st : Standing) (fs : List Frame) (h2 : History) (st2 : Standing) (rs : List Frame) → is_closed st ≡ false →
    IsFew fs → ServesAll x h st fs h2 st2 rs → IsTurn x k h st fs h2 st2 rs
one_turn x k h st fs h2 st2 rs o (inl e) s =
    let a : ServesAll x h st [] h2 st2 rs = subst (λ (y : List Frame). ServesAll x h st y h2 st2 rs) e s in
    subst (λ (y : List Frame). IsTurn x k h st y h2 st2 rs) (sym e) (record { short = false; history_is = a.0; standing_is = a.1; replies_are = a.2 })
one_turn x k h st fs h2 st2 rs o (inr p) s =
    let f = p.0 in
    let a : ServesAll x h st (f ∷ []) h2 st2 rs = subst (λ (y : List Frame). ServesAll x h st y h2 st2 rs) p.1 s in
    let b = rw o at a in
    subst (λ (y : List Frame). IsTurn x k h st y h2 st2 rs) (sym p.1) (elim b.2 [
      | inl e ↦ record {
        short = false;
        history_is = rw o (b.4.0 ∙ rw e refl);
        standing_is = rw o (b.4.1 ∙ rw e refl);
        replies_are =
            rw o (b.3 ∙ rw (b.4.2, append-nil, e) refl);
      }
      | inr e ↦ record {
        short = true;
        history_is = rw (o, e.0) (b.4.0 ∙ rw e.1 refl);
        standing_is = rw (o, e.0) (b.4.1 ∙ rw e.1 refl);
        replies_are =
            rw (o, e.0) (b.3 ∙ rw (b.4.2, append-nil, e.1) refl);
      }
    ])

pub few_of_split : (all fs more : List Frame) → IsFew all → Split all fs more → IsFew fs
few_of_split all fs more few (inl a) = inl a.0
few_of_split all fs more (inl e) (inr a) = inl (a.0 ∙ e)
few_of_split all fs more (inr e) (inr a) = inr (e.0, a.0 ∙ e.1)

-- what a delivery to the server leaves
pub record EndServed (x : Setting) (k : ℕ) (h : History) (l : ClientLink) (most : ℕ) (store : StoreState) (e2 : Side) (after : Session) : Type 0 where
  pub short : Bool
  pub setting_is : setting_of store ≡ x
  pub store_is : StandsFor store (turn_of x short k most h l).history
  pub end_is : EndIs (is_wide_setting x) e2 after (link_served x short k most h l)

module _ (x : Setting) (seeds : List (List ℕ)) (k : ℕ) (h : History) (l : ClientLink) (good : GoodHistory x h) (inv : LinkInvariant x h (seed_of seeds k) l) (e e2 : Side)
    (session after : Session) (store : StoreState) (most : ℕ) (replies : List ℕ) (i : EndIs (is_wide_setting x) e session l) where
  unclosed : is_closed session.standing ≡ false
  unclosed = ap is_closed i.standing_is ∙ inv.unclosed

  few : IsFew l.up.frames
  few = (few_frames x h l.standing (seed_of seeds k) l.client l.client.call l.up.frames l.down.frames inv.phase).0

  -- the server's turn leaves the session unclosed
  still_unclosed : (short : Bool) (fs more : List Frame) → Split l.up.frames fs more → is_closed (serves x short k h session.standing fs).standing ≡ false
  still_unclosed short fs more s =
      rw i.standing_is (served_link x seeds k h (seed_of seeds k) l.standing l.client good short l.client.call l.up.frames fs more l.down.frames s inv.unclosed
      inv.seed_is inv.profile_is inv.known inv.hint inv.call inv.phase).unclosed

  at_ok : (f : FeedsStore x h session (prefix most e.up) (Ok tt) store after [] replies) (frames reported more : List Frame) (middle : Standing) →
      Feeds (is_wide_setting x) session.unfinished (prefix most e.up) (Ok tt) frames after.unfinished
      → IsTurn x k h session.standing frames f.history middle reported → (after.standing ≡ middle) × (more ≡ []) → f.replies ≡ reported ++ more
      → e2.client ≡ e.client → e2.up ≡ rest most e.up → e2.down ≡ e.down ++ replies → EndServed x k h l most store e2 after
  at_ok f frames reported more middle reads turn ends all client up down =
      let d = delivered (is_wide_setting x) session.unfinished e.up l.up most (min most (length e.up)) frames after.unfinished refl i.up reads in
      let t : IsTurn x k h l.standing (arrived l.up most) f.history middle reported =
      subst (λ (y : Standing). IsTurn x k h y (arrived l.up most) f.history middle reported) i.standing_is
      (subst (λ (y : List Frame). IsTurn x k h session.standing y f.history middle reported) d.frames_are turn) in
      let all_reported : f.replies ≡ (turn_of x t.short k most h l).replies = all ∙ ap (λ (y : List Frame). reported ++ y) ends.1 ∙ append-nil reported
      ∙ t.replies_are in
      let each : AllByRecursion (IsFrameOf (is_wide_setting x)) (turn_of x t.short k most h l).replies =
      all_frames (is_wide_setting x) _ (subst (λ (y : List Frame). AllByRecursion IsFrame y) all_reported f.each) (turn_known x t.short k most h l) in
      let written : e2.down ≡ e.down ++ flat_map encoding (turn_of x t.short k most h l).replies = down
      ∙ ap (λ (b : List ℕ). e.down ++ b) (f.written ∙ ap (λ (y : List Frame). flat_map encoding y) all_reported) in
      record {
        short = t.short;
        setting_is = f.setting_is;
        store_is = subst (λ (y : History). StandsFor store y) t.history_is f.store_is;
        end_is = record {
          client_is = ap (λ (c : Client). c.state) client ∙ i.client_is;
          standing_is = ends.0 ∙ t.standing_is;
          up = subst (λ (b : List ℕ). Carries (is_wide_setting x) after.unfinished b (wire_after l.up most)) (sym up) d.rest;
          down = subst (λ (c : Client). Carries (is_wide_setting x) c.reader e2.down (sent l.down (turn_of x t.short k most h l).replies)) (sym client)
              (subst (λ (b : List ℕ). Carries (is_wide_setting x) e.client.reader b (sent l.down (turn_of x t.short k most h l).replies)) (sym written)
              (carries_more (is_wide_setting x) e.client.reader e.down l.down (turn_of x t.short k most h l).replies each i.down));
        };
      }

  pub served_end : FeedsStore x h session (prefix most e.up) (Ok tt) store after [] replies → e2.client ≡ e.client → e2.up ≡ rest most e.up →
      e2.down ≡ e.down ++ replies → EndServed x k h l most store e2 after
  served_end f client up down =
      let p : ServesPiece x h session (prefix most e.up) f.history after f.replies = rw unclosed at f.course in
      let r = prefix_read (is_wide_setting x) session.unfinished e.up l.up (min most (length e.up)) p.answer p.frames after.unfinished i.up p.reads in
      let s = split_prefix l.up.frames p.frames r.0 few r.1 in
      let t = one_turn x k h session.standing p.frames f.history p.middle p.reported unclosed (few_of_split l.up.frames p.frames r.0 few s) p.serves in
      let o : is_closed p.middle ≡ false = ap is_closed t.standing_is ∙ still_unclosed t.short p.frames r.0 s in
      let a : AfterReading p.answer p.middle after.standing p.more = rw o at p.ends in
      go p p.answer p.reads a t
    where
      go : (p : ServesPiece x h session (prefix most e.up) f.history after f.replies) (answer : Result (Unit {0}) ReadFault) →
          Feeds (is_wide_setting x) session.unfinished (prefix most e.up) answer p.frames after.unfinished → AfterReading answer p.middle after.standing p.more
          → IsTurn x k h session.standing p.frames f.history p.middle p.reported → EndServed x k h l most store e2 after
      go p (Ok done) reads a t = at_ok f p.frames p.reported p.more p.middle reads t a p.all client up down
      go p (Err stop) reads a t =
          let q : stop ≡ read_fault.Memory = memory_alone (is_wide_setting x) session.unfinished e.up l.up (min most (length e.up)) stop p.frames after.unfinished i.up reads in
          let P : ReadFault → Type 0 = λ y. AfterReading (Err y) p.middle after.standing p.more in
          absurd (subst P q a)
