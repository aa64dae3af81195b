-- What the server makes of a client's frame.
use Rattle.std.proofs.Common.{◌≡◌, ℕ, ◌*◌, ◌<◌, Bool, true, false, List, [], ◌∷◌, ◌++◌, length, Option, Some, None, ◌⊎◌, refl, sym, ap, subst, ◌∙◌, arith, inl, inr}
use Rattle.std.specs.Prelude.{◌==◌, ◌-◌, nat_le, option_to_list, replicate, unwrap_or}
use Rattle.std.specs.List.{AllByRecursion}
use Rattle.std.proofs.lemmas.List.{append-nil}
use Rattle.std.proofs.lemmas.Bool.{cases_Bool, eqb-true, eqb-false, eq-eqb, lt-ltb, leb-true}
use Rattle.pir_schemes.specs.declared.scheme.Scheme.{Scheme}
use Rattle.pir_schemes.specs.declared.scheme.Scheme.TheVariants.{Simple, Double}
use Rattle.pir_schemes.specs.Schemes.{scheme_byte, scheme_of_byte}
use Rattle.pir_schemes.specs.Plans.{shape_at, accepts_profile, slots}
use Rattle.pir_schemes.proofs.Lengths.{length_query}
use Rattle.frame_codec.specs.declared.frame.Frame.{Frame}
use Rattle.frame_codec.specs.declared.frame.Frame.TheVariants as frame
use Rattle.version_store.specs.Histories.{History, changes_since, current_version, delta_rows, entries_between, reaches_olds, records_of}
use Rattle.server_core.specs.declared.standing.Standing.{Standing}
use Rattle.server_core.specs.declared.standing.Standing.TheVariants.{Reader}
use Rattle.server_core.specs.Serving.{Setting, AfterFrame, changes_asked, is_closed, is_wide_setting, most_entry_bytes, is_reader_key, has_part, hint_words, words_asked, no_delta_given, delta_asked}
use Rattle.server_core.proofs.Granted.{delta_granted, changes_granted}
use Rattle.client_core.specs.declared.state.ClientState.{ClientState}
use Rattle.client_core.specs.declared.state.ServerInfo.{ServerInfo}
use Rattle.client_core.specs.declared.state.Call.{Call}
use Rattle.client_core.specs.declared.state.Hint.{Hint}
use Rattle.client_core.specs.declared.state.Call.TheVariants.{Idle, Hello, Sync, Delta, Changes, Ask, Edit, Append, Publish}
use Rattle.client_core.specs.States.{scheme_held}
use Rattle.client_core.specs.Calls.{call_words}
use Rattle.pir_world.specs.Runs.{FramesServed, AcceptedAsk, Served, served_or, serves, reader_key}
use Rattle.pir_world.specs.Versions.{HasVersion, IsVersion, HintIs, asked_words}
use Rattle.pir_world.specs.Headlines.{IsRightReply, IsRight}
use Rattle.pir_world.specs.Invariants.{GoodHistory, IsKnownOf, KnownIs, SyncIs, AskIs, CallIs, IsReply, outstanding_frame, InFlight, IsDuringCall}
use Rattle.pir_world.proofs.Later.{newest, one_version, records_at}
use Rattle.hint_changes.specs.Changes.{changes_between}
use Rattle.record_log.specs.OldRecords.{entries_bytes}
use Rattle.version_store.specs.OldRecords.{kept_olds, slots_with_blanks}
use Rattle.version_store.proofs.ChangesMove.{given, no_more}
use Rattle.pir_world.proofs.FrameKinds.{profile_wide}
use Rattle.pir_world.proofs.DeltaRows.{CoversChanges, rows_cover}
use Rattle.pir_world.proofs.Wires.{Split}

-- a frame was served as is right, whoever sent it
abbrev pub IsServed : Setting → History → ℕ → Frame → Option Frame → Type 0
IsServed x h now f reply = (seeds : List (List ℕ)) (k : ℕ) → IsRight x seeds h (Served k f now reply)

-- what serving the outstanding call's frame leads to
pub record Replied (x : Setting) (h : History) (seed : List ℕ) (st : Standing) (z : Scheme) (call : Call) (f : Frame) (o : AfterFrame) : Type 0 where
  pub history_is : o.history ≡ h
  pub unclosed : is_closed o.standing ≡ false
  pub reader : st ≡ Reader → o.standing ≡ Reader
  pub reply : (r : Frame) × (o.reply ≡ Some r) × IsReply x h o.standing seed z call r
  pub right : IsServed x h (current_version h) f o.reply

now_is : (h : History) (v : ℕ) → v ≡ current_version h → HasVersion h v h.current
now_is h v e = subst (λ (n : ℕ). HasVersion h n h.current) (sym e) (newest h)

-- a version that isn't the current one is before it
before_now : (h : History) (v : ℕ) (records : List (List ℕ)) → HasVersion h v records → (v ≡ current_version h → ⊥) → v < current_version h
before_now h v records p ne = omega (arith, p.0, ne)

reader_key_is : is_reader_key (replicate 32 0) ≡ true
unfolding is_reader_key
reader_key_is = refl

welcomed : (short : Bool) (x : Setting) (h : History) (seed : List ℕ) (st : Standing) (z : Scheme) (profile : ℕ) → accepts_profile x.plan profile ≡ true →
    Replied x h seed st z Hello (frame.Hello profile reader_key) (served_or short x h st (frame.Hello profile reader_key))
welcomed false x h seed st z profile asked =
    rw (asked, reader_key_is) (record {
      history_is = refl;
      unclosed = refl;
      reader = λ e. refl;
      reply =
          (_, refl, (refl, (current_version h, h.current, newest h, refl)));
      right = λ seeds k. tt;
    })
welcomed true x h seed st z profile asked =
    rw (asked, reader_key_is) (record {
      history_is = refl;
      unclosed = refl;
      reader = λ e. refl;
      reply =
          (_, refl, (refl, (current_version h, h.current, newest h, refl)));
      right = λ seeds k. tt;
    })

-- a scheme's byte names it
byte_names : (s : Scheme) → scheme_of_byte (scheme_byte s) ≡ Some s
byte_names Simple = refl
byte_names Double = refl

-- a right reply is one to the query that names its scheme
right_query : (x : Setting) (h : History) (s : Scheme) (v now : ℕ) (words : List ℕ) (reply : Option Frame) → IsRightReply x h s v now words reply →
    IsServed x h now (frame.Query (scheme_byte s) v words) reply
right_query x h s v now words reply r =
    λ seeds k. (s, refl, r)

-- ---- a part of the hint

part_there : (x : Setting) (s : Scheme) (records : List (List ℕ)) (p : ℕ) → 65536 * p < length (hint_words x s records) → has_part x s records p ≡ true
unfolding has_part
part_there x s records p lt = lt-ltb _ _ lt

module _ (x : Setting) (h : History) (seed : List ℕ) (z s : Scheme) (v p : ℕ) where
  now : (short : Bool) → (v == current_version h) ≡ true → has_part x s h.current p ≡ true →
      Replied x h seed Reader z (Sync s v p) (frame.HintAsk (scheme_byte s) v p) (served_or short x h Reader (frame.HintAsk (scheme_byte s) v p))
  now false t in_ =
      let e : v ≡ current_version h = eqb-true v (current_version h) t in
      rw (byte_names s, t, in_)
      (record { history_is = refl; unclosed = refl; reader = λ e. e; reply = (_, refl, inr (inr (h.current, now_is h v e, rw e refl))); right = λ seeds k. tt })
  now true t in_ = rw (byte_names s, t, in_) (record { history_is = refl; unclosed = refl; reader = λ e. e; reply = (_, refl, inl refl); right = λ seeds k. tt })

  old : (short : Bool) → (v == current_version h) ≡ false → v < current_version h →
      Replied x h seed Reader z (Sync s v p) (frame.HintAsk (scheme_byte s) v p) (served_or short x h Reader (frame.HintAsk (scheme_byte s) v p))
  old false t lt = rw (byte_names s, t)
      (record {
        history_is = refl;
        unclosed = refl;
        reader = λ e. e;
        reply = (_, refl, inr (inl (current_version h, h.current, newest h, lt, refl)));
        right = λ seeds k. tt;
      })
  old true t lt = rw (byte_names s, t)
      (record {
        history_is = refl;
        unclosed = refl;
        reader = λ e. e;
        reply = (_, refl, inr (inl (current_version h, h.current, newest h, lt, refl)));
        right = λ seeds k. tt;
      })

  replied_sync : (short : Bool) (known : Option ServerInfo) (parts : List ℕ) → SyncIs x h s v p known parts →
      Replied x h seed Reader z (Sync s v p) (frame.HintAsk (scheme_byte s) v p) (served_or short x h Reader (frame.HintAsk (scheme_byte s) v p))
  replied_sync short known parts i = elim (cases_Bool (v == current_version h)) [
    | inl t ↦
        let e : i.records ≡ h.current = one_version h v i.records h.current i.version_is (now_is h v (eqb-true v (current_version h) t)) in
        now short t (part_there x s h.current p (subst (λ (r : List (List ℕ)). 65536 * p < length (hint_words x s r)) e i.further))
    | inr t ↦ old short t (before_now h v i.records i.version_is (eqb-false v (current_version h) t))
  ]

-- ---- the rows that changed

module _ (x : Setting) (h : History) (g : GoodHistory x h) (seed : List ℕ) (z : Scheme) (since : ℕ) (before : List (List ℕ)) (there : HasVersion h since before) where
  no_rows : Replied x h seed Reader z (Delta since) (frame.DeltaAsk since) (no_delta_given Reader h)
  no_rows = record {
    history_is = refl;
    unclosed = refl;
    reader = λ e. e;
    reply = (_, refl, inr (inl (current_version h, h.current, newest h, refl)));
    right = λ seeds k. tt;
  }

  some_rows : (rows : List ℕ) → CoversChanges x.plan before h.current rows → (nat_le (length rows) 1024 ≡ true) ⊎ (nat_le (length rows) 1024 ≡ false)
      → Replied x h seed Reader z (Delta since) (frame.DeltaAsk since) (delta_asked x h Reader since (Some rows))
  some_rows rows n (inl t) = rw t (record {
    history_is = refl;
    unclosed = refl;
    reader = λ e. e;
    reply = (
      _,
      refl,
      inr (inr (record {
        now = current_version h;
        records = h.current;
        version_is = newest h;
        before = before;
        since_is = there;
        numbers = rows;
        few = leb-true (length rows) 1024 t;
        ascending = n.ascending;
        named = n.named;
        reply_is = refl;
      })),
    );
    right = λ seeds k. tt;
  })
  some_rows rows n (inr t) = rw t no_rows

  asked_rows : (o : Option (List ℕ)) → delta_rows x.plan h since ≡ o →
      Replied x h seed Reader z (Delta since) (frame.DeltaAsk since) (delta_asked x h Reader since o)
  asked_rows None e = no_rows
  asked_rows (Some rows) e = some_rows rows (rows_cover x.plan h since before rows there e) (cases_Bool (nat_le (length rows) 1024))

  replied_delta : (short : Bool) → Replied x h seed Reader z (Delta since) (frame.DeltaAsk since) (served_or short x h Reader (frame.DeltaAsk since))
  replied_delta false = asked_rows (delta_rows x.plan h since) refl
  replied_delta true =
      rw (delta_granted x h Reader since (delta_rows x.plan h since))
      (record { history_is = refl; unclosed = refl; reader = λ e. e; reply = (_, refl, inl refl); right = λ seeds k. tt })

-- ---- the records that changed

module _ (x : Setting) (h : History) (g : GoodHistory x h) (seed : List ℕ) (z : Scheme) (since : ℕ) (before : List (List ℕ)) (there : HasVersion h since before)
    (wide : is_wide_setting x ≡ true) where
  no_changes : Replied x h seed Reader z (Changes since) (frame.ChangesAsk since) (no_delta_given Reader h)
  no_changes = record {
    history_is = refl;
    unclosed = refl;
    reader = λ e. e;
    reply = (_, refl, inr (inl (current_version h, h.current, newest h, refl)));
    right = λ seeds k. tt;
  }

  -- what differs between the two versions
  between : List ℕ
  between = entries_bytes (changes_between (slots_with_blanks x.plan (length h.current) before) (slots x.plan h.current))

  version_there : records_of h since ≡ Some before
  version_there = there.1

  entries_are : (entries : List ℕ) → changes_since x.plan h since (most_entry_bytes x) ≡ Some entries → entries ≡ between
  unfolding changes_since between
  entries_are entries e =
      given (reaches_olds (current_version h) (length (kept_olds x.plan h.current h.past)) since) (most_entry_bytes x) (entries_between x.plan h since) entries e
      ∙ ap (λ (o : Option (List (List ℕ))). entries_bytes (changes_between (slots_with_blanks x.plan (length h.current) (unwrap_or o [])) (slots x.plan h.current)))
      version_there

  some_changes : (entries : List ℕ) → changes_since x.plan h since (most_entry_bytes x) ≡ Some entries →
      Replied x h seed Reader z (Changes since) (frame.ChangesAsk since) (changes_asked x h Reader since (Some entries))
  unfolding between
  some_changes entries e = record {
    history_is = refl;
    unclosed = refl;
    reader = λ z. z;
    reply = (
      _,
      refl,
      inr (inr (record {
        now = current_version h;
        records = h.current;
        version_is = newest h;
        before = before;
        since_is = there;
        more = no_more h.current h.past (current_version h - since) before g.growing.1 (sym (records_at h since there.0) ∙ there.1);
        reply_is = ap (λ (bytes : List ℕ). frame.Changes since (current_version h) (length h.current) bytes) (entries_are entries e);
      })),
    );
    right = λ seeds k. tt;
  }

  asked_changes : (o : Option (List ℕ)) → changes_since x.plan h since (most_entry_bytes x) ≡ o →
      Replied x h seed Reader z (Changes since) (frame.ChangesAsk since) (changes_asked x h Reader since o)
  asked_changes None e = no_changes
  asked_changes (Some entries) e = some_changes entries e

  replied_changes : (short : Bool) → Replied x h seed Reader z (Changes since) (frame.ChangesAsk since) (served_or short x h Reader (frame.ChangesAsk since))
  replied_changes false = rw wide (asked_changes (changes_since x.plan h since (most_entry_bytes x)) refl)
  replied_changes true =
      rw (wide, changes_granted x h Reader since (changes_since x.plan h since (most_entry_bytes x)))
      (record { history_is = refl; unclosed = refl; reader = λ e. e; reply = (_, refl, inl refl); right = λ seeds k. tt })

-- ---- a query

-- the words of a client's query, where what it knows is the version's
pub asked_is : (x : Setting) (h : History) (y : ServerInfo) (records : List (List ℕ)) (seed : List ℕ) (r : AcceptedAsk) → IsKnownOf x h y →
    HasVersion h y.version records →
    call_words (Some y) r.scheme seed r.number r.index ≡ asked_words x.plan records seed r
asked_is x h y records seed r k p =
    let same : k.records ≡ records = one_version h y.version k.records records k.version_is p in
    rw (k.plan_is, k.count_is, same) refl

module _ (x : Setting) (h : History) (seed : List ℕ) (i : ℕ) (s : Scheme) (v n : ℕ) (records : List (List ℕ)) (there : HasVersion h v records) where
  abbrev retrieval : AcceptedAsk
  retrieval = record { index = i; scheme = s; version = v; number = n }

  words_fit : (length (asked_words x.plan records seed retrieval) == words_asked x s records) ≡ true
  words_fit = eq-eqb _ _ (length_query s (shape_at x.plan (length records)) x.plan.dimension x.plan.seed seed n i)

  -- the words that are asked, under a short name
  answer_now : (short : Bool) (words : List ℕ) → words ≡ asked_words x.plan records seed retrieval → (v == current_version h) ≡ true → records ≡ h.current →
      (length words == words_asked x s h.current) ≡ true →
      Replied x h seed Reader s (Ask i v n) (frame.Query (scheme_byte s) v words) (served_or short x h Reader (frame.Query (scheme_byte s) v words))
  answer_now false words w t same fit =
      let e : v ≡ current_version h = eqb-true v (current_version h) t in
      rw (byte_names s, t, fit) (record {
        history_is = refl;
        unclosed = refl;
        reader = λ e. e;
        reply = (_, refl, inr (inr (h.current, now_is h v e, rw (e, w, same) refl)));
        right = right_query x h s v (current_version h) words _
            (record { records = h.current; version_is = newest h; stale = λ ne. absurd (ne e); answered = λ same. inl refl });
      })
  answer_now true words w t same fit =
      let e : v ≡ current_version h = eqb-true v (current_version h) t in
      rw (byte_names s, t, fit) (record {
        history_is = refl;
        unclosed = refl;
        reader = λ e. e;
        reply = (_, refl, inl refl);
        right = right_query x h s v (current_version h) words _
            (record { records = h.current; version_is = newest h; stale = λ ne. absurd (ne e); answered = λ same. inr refl });
      })

  answer_old : (short : Bool) (words : List ℕ) → (v == current_version h) ≡ false →
      Replied x h seed Reader s (Ask i v n) (frame.Query (scheme_byte s) v words) (served_or short x h Reader (frame.Query (scheme_byte s) v words))
  answer_old false words t =
      let ne : v ≡ current_version h → ⊥ = eqb-false v (current_version h) t in
      rw (byte_names s, t) (record {
        history_is = refl;
        unclosed = refl;
        reader = λ e. e;
        reply = (_, refl, inr (inl (current_version h, h.current, newest h, before_now h v records there ne, refl)));
        right = right_query x h s v (current_version h) words _
            (record { records = h.current; version_is = newest h; stale = λ other. refl; answered = λ same. absurd (ne same) });
      })
  answer_old true words t =
      let ne : v ≡ current_version h → ⊥ = eqb-false v (current_version h) t in
      rw (byte_names s, t) (record {
        history_is = refl;
        unclosed = refl;
        reader = λ e. e;
        reply = (_, refl, inr (inl (current_version h, h.current, newest h, before_now h v records there ne, refl)));
        right = right_query x h s v (current_version h) words _
            (record { records = h.current; version_is = newest h; stale = λ other. refl; answered = λ same. absurd (ne same) });
      })

  pub replied_ask : (short : Bool) (words : List ℕ) → words ≡ asked_words x.plan records seed retrieval →
      Replied x h seed Reader s (Ask i v n) (frame.Query (scheme_byte s) v words) (served_or short x h Reader (frame.Query (scheme_byte s) v words))
  replied_ask short words w = elim (cases_Bool (v == current_version h)) [
    | inl t ↦
        let same : records ≡ h.current = one_version h v records h.current there (now_is h v (eqb-true v (current_version h) t)) in
        answer_now short words w t same (ap (λ (z : List ℕ). length z == words_asked x s h.current) w
        ∙ ap (λ (r : List (List ℕ)). length (asked_words x.plan records seed retrieval) == words_asked x s r) (sym same) ∙ words_fit)
    | inr t ↦ answer_old short words t
  ]

-- ---- what a delivery to the server leaves of a link

pub record ServedLink (x : Setting) (seeds : List (List ℕ)) (h : History) (seed : List ℕ) (st : Standing) (c : ClientState) (call : Call) (t : FramesServed)
    (up down : List Frame) : Type 0 where
  pub history_is : t.history ≡ h
  pub unclosed : is_closed t.standing ≡ false
  pub reader : st ≡ Reader → t.standing ≡ Reader
  pub phase : IsDuringCall x h t.standing seed c call up down
  pub right : AllByRecursion (IsRight x seeds h) t.log

module _ (x : Setting) (seeds : List (List ℕ)) (k : ℕ) (h : History) (seed : List ℕ) (st : Standing) (c : ClientState) where
  nothing_comes : (short : Bool) (call : Call) (fs up down : List Frame) → is_closed st ≡ false → fs ≡ [] → IsDuringCall x h st seed c call up down
      → ServedLink x seeds h seed st c call (serves x short k h st fs) up (down ++ (serves x short k h st fs).replies)
  nothing_comes short call fs up down o e p = rw e (record { history_is = refl; unclosed = o; reader = λ x. x; phase = rw append-nil p; right = tt })

  flight_phase : (s : Standing) (call : Call) (up down : List Frame) (r : Frame) → up ≡ [] → down ≡ r ∷ [] → IsReply x h s seed (scheme_held c.hint) call r →
      IsDuringCall x h s seed c call up down
  flight_phase s Idle up down r e d p = absurd p
  flight_phase s Hello up down r e d p = inr (e, (r, d, p))
  flight_phase s (Sync scheme v q) up down r e d p = inr (e, (r, d, p))
  flight_phase s (Delta since) up down r e d p = inr (e, (r, d, p))
  flight_phase s (Changes since) up down r e d p = inr (e, (r, d, p))
  flight_phase s (Ask i v n) up down r e d p = inr (e, (r, d, p))
  flight_phase s Edit up down r e d p = absurd p
  flight_phase s Append up down r e d p = absurd p
  flight_phase s Publish up down r e d p = absurd p

  frame_comes : (short : Bool) (call : Call) (fs up down : List Frame) → is_closed st ≡ false → fs ≡ outstanding_frame c call ∷ [] → up ≡ [] → down ≡ []
      → Replied x h seed st (scheme_held c.hint) call (outstanding_frame c call) (served_or short x h st (outstanding_frame c call)) →
      ServedLink x seeds h seed st c call (serves x short k h st fs) up (down ++ (serves x short k h st fs).replies)
  frame_comes short call fs up down o e u d r = rw (e, o, d) (record {
    history_is = r.history_is;
    unclosed = r.unclosed;
    reader = r.reader;
    phase = flight_phase _ call up _ r.reply.0 u (ap option_to_list r.reply.1) r.reply.2;
    right = (r.right seeds k, tt);
  })

  served_flight : (short : Bool) (call : Call) (up fs up2 down : List Frame) → Split up fs up2 → is_closed st ≡ false
      → Replied x h seed st (scheme_held c.hint) call (outstanding_frame c call) (served_or short x h st (outstanding_frame c call)) → InFlight x h st seed c call up down →
      IsDuringCall x h st seed c call up down
      → ServedLink x seeds h seed st c call (serves x short k h st fs) up2 (down ++ (serves x short k h st fs).replies)
  served_flight short call up fs up2 down (inl a) o r p ph = nothing_comes short call fs up2 down o a.0 (rw a.1 ph)
  served_flight short call up fs up2 down (inr a) o r (inl p) ph = frame_comes short call fs up2 down o (a.0 ∙ p.0) a.1 p.1 r
  served_flight short call up fs up2 down (inr a) o r (inr p) ph = nothing_comes short call fs up2 down o (a.0 ∙ p.0) (rw (a.1, ← p.0) ph)

  hint_version : (o : Option Hint) (y : Hint) (v : ℕ) → HintIs x h o → o ≡ Some y → y.version ≡ v → IsVersion h v
  hint_version o y v hint at e =
      let f : HintIs x h (Some y) = subst (λ (z : Option Hint). HintIs x h z) at hint in
      (f.0, subst (λ (n : ℕ). HasVersion h n f.0) e f.1)

  known_is : (o : Option ServerInfo) (y : ServerInfo) → KnownIs x h st o → o ≡ Some y → (st ≡ Reader) × IsKnownOf x h y
  known_is o y k e = let P : Option ServerInfo → Type 0 = λ z. KnownIs x h st z in subst P e k

  -- the words of an ask are those of its retrieval's query
  pub ask_words : (j : ℕ) (scheme : Scheme) (v n : ℕ) → c.seed ≡ seed → KnownIs x h st c.known → HintIs x h c.hint → AskIs c j v
      → (records : List (List ℕ)) × HasVersion h v records
      × (call_words c.known scheme c.seed n j ≡ asked_words x.plan records seed (record { index = j; scheme = scheme; version = v; number = n }))
  ask_words j scheme v n s known hint i =
      let y = known_is c.known i.k known i.known_is in
      let there = hint_version c.hint i.hint v hint i.hint_is i.version_is in
      let r : AcceptedAsk = record { index = j; scheme = scheme; version = v; number = n } in
      let w : call_words c.known scheme c.seed n j ≡ asked_words x.plan there.0 seed r =
      ap (λ (o : Option ServerInfo). call_words o scheme c.seed n j) i.known_is
      ∙ asked_is x h i.k there.0 c.seed r y.1 (subst (λ (m : ℕ). HasVersion h m there.0) (sym i.asked) there.1)
      ∙ ap (λ (z : List ℕ). asked_words x.plan there.0 z r) s in
      (there.0, there.1, w)

  -- the outstanding call's frame is served
  replied : GoodHistory x h → (short : Bool) (call : Call) → (call ≡ Idle → ⊥) → c.seed ≡ seed → accepts_profile x.plan c.profile ≡ true → KnownIs x h st c.known → HintIs x h c.hint → CallIs x h c call →
      Replied x h seed st (scheme_held c.hint) call (outstanding_frame c call) (served_or short x h st (outstanding_frame c call))
  replied g short Idle busy s asked known hint i = absurd (busy refl)
  replied g short Hello busy s asked known hint i = welcomed short x h seed st (scheme_held c.hint) c.profile asked
  replied g short (Sync scheme v p) busy s asked known hint i =
      subst (λ (y : Standing). Replied x h seed y (scheme_held c.hint) (Sync scheme v p) (frame.HintAsk (scheme_byte scheme) v p)
      (served_or short x h y (frame.HintAsk (scheme_byte scheme) v p)))
      (sym (known_is c.known i.k known i.known_is).0) (replied_sync x h seed (scheme_held c.hint) scheme v p short c.known c.parts i)
  replied g short (Delta since) busy s asked known hint i =
      let y = known_is c.known i.k known i.known_is in
      let v = hint_version c.hint i.hint since hint i.hint_is i.version_is in
      subst (λ (z : Standing). Replied x h seed z (scheme_held c.hint) (Delta since) (frame.DeltaAsk since) (served_or short x h z (frame.DeltaAsk since)))
      (sym y.0) (replied_delta x h g seed (scheme_held c.hint) since v.0 v.1 short)
  replied g short (Changes since) busy s asked known hint i =
      let y = known_is c.known i.0.k known i.0.known_is in
      let v = hint_version c.hint i.0.hint since hint i.0.hint_is i.0.version_is in
      let wide : is_wide_setting x ≡ true = sym (profile_wide x.plan c.profile asked) ∙ i.1 in
      subst (λ (z : Standing). Replied x h seed z (scheme_held c.hint) (Changes since) (frame.ChangesAsk since) (served_or short x h z (frame.ChangesAsk since)))
      (sym y.0) (replied_changes x h g seed (scheme_held c.hint) since v.0 v.1 wide short)
  replied g short (Ask j v n) busy s asked known hint i =
      let scheme : Scheme = scheme_held c.hint in
      let y = known_is c.known i.k known i.known_is in
      let w = ask_words j scheme v n s known hint i in
      subst (λ (z : Standing). Replied x h seed z scheme (Ask j v n) (frame.Query (scheme_byte scheme) v (call_words c.known scheme c.seed n j))
      (served_or short x h z (frame.Query (scheme_byte scheme) v (call_words c.known scheme c.seed n j))))
      (sym y.0) (replied_ask x h seed j scheme v n w.0 w.1 short (call_words c.known scheme c.seed n j) w.2)
  replied g short Edit busy s asked known hint i = absurd i
  replied g short Append busy s asked known hint i = absurd i
  replied g short Publish busy s asked known hint i = absurd i

  -- what the server makes of the frames that come of a link, which are none or all
  pub served_link : GoodHistory x h → (short : Bool) (call : Call) (up fs up2 down : List Frame) → Split up fs up2 → is_closed st ≡ false → c.seed ≡ seed → accepts_profile x.plan c.profile ≡ true →
      KnownIs x h st c.known → HintIs x h c.hint → CallIs x h c call
      → IsDuringCall x h st seed c call up down → ServedLink x seeds h seed st c call (serves x short k h st fs) up2 (down ++ (serves x short k h st fs).replies)
  served_link g short Idle up fs up2 down (inl a) o s asked known hint i p = nothing_comes short Idle fs up2 down o a.0 (a.1 ∙ p.0, p.1)
  served_link g short Idle up fs up2 down (inr a) o s asked known hint i p = nothing_comes short Idle fs up2 down o (a.0 ∙ p.0) (a.1, p.1)
  served_link g short Hello up fs up2 down a o s asked known hint i p =
      served_flight short Hello up fs up2 down a o (replied g short Hello (λ e. (cc)) s asked known hint i) p p
  served_link g short (Sync scheme v q) up fs up2 down a o s asked known hint i p =
      served_flight short (Sync scheme v q) up fs up2 down a o (replied g short (Sync scheme v q) (λ e. (cc)) s asked known hint i) p p
  served_link g short (Delta since) up fs up2 down a o s asked known hint i p =
      served_flight short (Delta since) up fs up2 down a o (replied g short (Delta since) (λ e. (cc)) s asked known hint i) p p
  served_link g short (Changes since) up fs up2 down a o s asked known hint i p =
      served_flight short (Changes since) up fs up2 down a o (replied g short (Changes since) (λ e. (cc)) s asked known hint i) p p
  served_link g short (Ask j v n) up fs up2 down a o s asked known hint i p =
      served_flight short (Ask j v n) up fs up2 down a o (replied g short (Ask j v n) (λ e. (cc)) s asked known hint i) p p
  served_link g short Edit up fs up2 down a o s asked known hint i p = absurd p
  served_link g short Append up fs up2 down a o s asked known hint i p = absurd p
  served_link g short Publish up fs up2 down a o s asked known hint i p = absurd p
