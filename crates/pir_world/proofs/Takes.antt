-- What a client makes of a reply.
use Rattle.std.proofs.Common.{◌≡◌, ℕ, All, ◌+◌, ◌*◌, ◌<◌, ◌⊎◌, Bool, true, false, not, cond, List, [], ◌∷◌, ◌++◌, length, take, drop, min, Option, Some, None, refl, sym, ap, subst, ◌∙◌, arith, inl, inr}
use Rattle.std.specs.Prelude.{nat_lt, nat_le, ◌==◌, ◌&&◌, fold}
use Rattle.std.specs.List.{AllByRecursion, Contains}
use Rattle.frame_codec.specs.Rows.{RowList, row_list}
use Rattle.std.proofs.lemmas.List.{get_or_default, length-take, length-drop, take_all}
use Rattle.std.proofs.Math.Seq.{take-add}
use Rattle.std.proofs.Math.Nat.{mul-pos}
use Rattle.std.proofs.lemmas.Bool.{cases_Bool, eqb-true, eqb-false, eq-eqb, ne_eqb, lt-ltb, le-leb, and_from}
use Rattle.matrix_u32.specs.Matrix.{WordMatrix, IsWhole, row}
use Rattle.digit_pack.specs.Layout.{Shape, IsShape, digit_rows}
use Rattle.digit_pack.proofs.Changes.{some_digits}
use Rattle.digit_pack.proofs.DigitSums.{split_some}
use Rattle.digit_pack.proofs.RecordLemmas.{shape_of_layout}
use Rattle.pir_schemes.specs.declared.scheme.Scheme.{Scheme}
use Rattle.pir_schemes.specs.declared.scheme.Scheme.TheVariants.{Simple, Double}
use Rattle.pir_schemes.specs.Schemes.{scheme_byte}
use Rattle.pir_schemes.specs.Parts.{part_len}
use Rattle.pir_schemes.specs.declared.plan.Plan.{Plan}
use Rattle.digit_pack.specs.Slots.{is_form}
use Rattle.hint_changes.specs.Changes.{changes_between, moved}
use Rattle.hint_changes.specs.Entries.{changes_in}
use Rattle.record_log.specs.OldRecords.{entries_bytes}
use Rattle.version_store.specs.OldRecords.{slots_with_blanks}
use Rattle.version_store.proofs.ChangesMove.{between_moves}
use Rattle.pir_schemes.specs.Plans.{IsPlan, IsRecordOf, first_public, shape_at, slots, accepts_profile}
use Rattle.pir_schemes.specs.Retrievals.{hint_rows as rows_of_hint, hint_len, hint_matrix, reading}
use Rattle.pir_schemes.specs.Laws.{RetrievalGivesTheRecord}
use Rattle.pir_schemes.proofs.Lengths.{hint_sizes, length-answer}
use Rattle.frame_codec.specs.declared.frame.Frame.{Frame}
use Rattle.frame_codec.specs.declared.frame.Frame.TheVariants as frame
use Rattle.frame_codec.specs.declared.refusal.Refusal.TheVariants as refusal
use Rattle.frame_codec.specs.Refusals.{refused, code_of}
use Rattle.version_store.specs.Histories.{History}
use Rattle.server_core.specs.declared.standing.Standing.{Standing}
use Rattle.server_core.specs.declared.standing.Standing.TheVariants.{Reader}
use Rattle.server_core.specs.Serving.{Setting, hint_words, named_hint_rows, hint_part}
use Rattle.client_core.specs.declared.state.ClientState.{ClientState}
use Rattle.client_core.specs.declared.state.ServerInfo.{ServerInfo}
use Rattle.client_core.specs.declared.state.Hint.{Hint}
use Rattle.client_core.specs.declared.state.Call.{Call}
use Rattle.client_core.specs.declared.state.Call.TheVariants.{Idle, Hello, Sync, Delta, Changes, Ask, Edit, Append, Publish}
use Rattle.client_core.specs.declared.state.ClientFault.TheVariants.{BadReply}
use Rattle.client_core.specs.declared.state.Reaction.TheVariants.{Asks}
use Rattle.client_core.specs.States.{is_layout, shape_known, scheme_held}
use Rattle.client_core.specs.Replies.{AfterReply, reaction_to_reply, reaction_to_part, is_accepted_welcome, is_part, is_answer, is_current, with_current, are_ascending, are_entries, have_slots, is_delta, is_changes, hint_with_entries, event_read, ended, faulty}
use Rattle.client_core.specs.Kinds.{takes_welcome, takes_part, takes_answer, takes_stale, takes_no_delta, takes_refused, takes_asked_part, answered, event_of}
use Rattle.client_core.specs.declared.state.Event.TheVariants.{Synced}
use Rattle.client_core.specs.Laws.{rows_of}
use Rattle.client_core.specs.Feeding.{sends_of, fault_of}
use Rattle.client_core.proofs.HintLaws.{delta_makes_it}
use Rattle.client_core.proofs.Entries.{changes_taken}
use Rattle.pir_world.proofs.ChangedRecords.{entries_good, slots_good}
use Rattle.digit_pack.proofs.Layouts.{layout_accepted}
use Rattle.pir_world.specs.Runs.{AcceptedAsk, LogEntry, reacts}
use Rattle.pir_world.specs.Earlier.{hint_after}
use Rattle.pir_world.specs.Versions.{HasVersion, HintIs, asked_words, given_words, name_of_hint, record_read, seed_of}
use Rattle.pir_world.specs.Headlines.{IsRight, IsAnswered}
use Rattle.pir_world.specs.Invariants.{AreRecordsOf, IsChangesTo, GoodHistory, IsKnownOf, KnownIs, SyncIs, DeltaIs, IsDeltaTo, CallIs, IsReply, IsFrom, IsDuringCall, welcome_frame}
use Rattle.pir_world.proofs.Later.{version_positive, one_version}

pub one_alike : {X : Type 0} (x y : X) → ◌≡◌ {A = List X} (x ∷ []) (y ∷ []) → x ≡ y
one_alike x y e = cc

-- what is kept of a client
pub record ClientInv (x : Setting) (h : History) (seed : List ℕ) (st : Standing) (c : ClientState) : Type 0 where
  pub seed_is : c.seed ≡ seed
  pub profile_is : accepts_profile x.plan c.profile ≡ true
  pub alive : c.failed ≡ false
  pub known : KnownIs x h st c.known
  pub hint : HintIs x h c.hint
  pub call : CallIs x h c c.call

-- the next part is asked for where the one before came, and the first where what changed can't be
-- given
abbrev pub IsPartBefore : Call → Frame → Scheme → ℕ → ℕ → Type 0
IsPartBefore (Sync s v p) reply scheme version part =
    (scheme ≡ s) × (version ≡ v) × (part ≡ p + 1) × ((words : List ℕ) × (reply ≡ frame.HintPart (scheme_byte scheme) version p words))
IsPartBefore (Delta since) reply scheme version part =
    (scheme ≡ Simple) × (part ≡ 0) × ((count : ℕ) × (reply ≡ frame.NoDelta version count))
IsPartBefore (Changes since) reply scheme version part =
    (scheme ≡ Simple) × (part ≡ 0) × ((count : ℕ) × (reply ≡ frame.NoDelta version count))
IsPartBefore _ reply scheme version part = ⊥

-- what a good reply leads to
pub record IsTaken (x : Setting) (seeds : List (List ℕ)) (k : ℕ) (h : History) (st : Standing) (c : ClientState) (call : Call) (reply : Frame)
    (t : AfterReply) : Type 0 where
  pub client : ClientInv x h (seed_of seeds k) st t.state
  pub no_fault : fault_of t.reaction ≡ None
  pub phase : IsDuringCall x h st (seed_of seeds k) t.state t.state.call (sends_of t.reaction) []
  pub right : AllByRecursion (IsRight x seeds h) (reacts k (scheme_held c.hint) call reply t.reaction)
  pub number : t.state.number ≡ c.number
  pub told : name_of_hint t.state.hint ≡ fold (hint_after k) (name_of_hint c.hint) (reacts k (scheme_held c.hint) call reply t.reaction)
  pub asks : (scheme : Scheme) (version part : ℕ) → t.reaction ≡ Asks scheme version part → IsPartBefore call reply scheme version part
  pub next : (f : Frame) (first : List LogEntry) → sends_of t.reaction ≡ f ∷ [] → IsFrom x h (seed_of seeds k) k (scheme_held t.state.hint) t.state.call f first

-- ---- sizes

plan_accepted : (p : Plan) (n : ℕ) (l : Shape) → IsPlan p n → l ≡ shape_at p n → is_layout l ≡ true
plan_accepted p n l ok e = rw e (layout_accepted (shape_at p n) ok.layout)

welcome_good : (profile : ℕ) (p : Plan) (n v : ℕ) → accepts_profile p profile ≡ true → IsPlan p n → 0 < v → is_accepted_welcome profile p n v ≡ true
welcome_good profile p n v asked ok lt =
    and_from (accepts_profile p profile) _ asked (
    and_from (is_form p.form p.record_len) _ ok.form
    (and_from (is_layout (shape_at p n)) _ (layout_accepted (shape_at p n) ok.layout)
    (and_from (nat_le 1 p.dimension && nat_le p.dimension 1024) (nat_lt 0 v) (and_from _ _ (le-leb 1 p.dimension ok.low) (le-leb p.dimension 1024 ok.high))
    (lt-ltb 0 v lt))))

matrix_same : (m : WordMatrix) (r c : ℕ) (w : List ℕ) → r ≡ m.rows → c ≡ m.cols → w ≡ m.words → record { rows = r; cols = c; words = w } ≡ m
matrix_same m r c w a b d = rw (a, b, d) refl

hint_list_is : (x : Setting) (s : Scheme) (records : List (List ℕ)) → hint_words x s records ≡ (hint_matrix s x.plan records).words
unfolding hint_words
hint_list_is x s records = refl

length-hint : (x : Setting) (s : Scheme) (records : List (List ℕ)) →
    length (hint_words x s records) ≡ hint_len s (shape_at x.plan (length records)) x.plan.dimension
length-hint x s records =
    let z = hint_sizes s x.plan records in
    ap length (hint_list_is x s records) ∙ z.whole ∙ ap (λ (n : ℕ). n * (hint_matrix s x.plan records).cols) z.rows
    ∙ ap (λ (n : ℕ). rows_of_hint s (shape_at x.plan (length records)) x.plan.dimension * n) z.cols

some_rows : (s : Scheme) (l : Shape) (n : ℕ) → IsShape l → 0 < n → 0 < rows_of_hint s l n
some_rows Simple l n ok lt = mul-pos ok.groups (some_digits l ok)
some_rows Double l n ok lt = mul-pos lt (split_some l.width ok.width)

-- a hint has words
pub hint_long : (x : Setting) (s : Scheme) (records : List (List ℕ)) → IsPlan x.plan (length records) → 65536 * 0 < length (hint_words x s records)
hint_long x s records ok =
    let l : Shape = shape_at x.plan (length records) in
    let low : 0 < x.plan.dimension = omega (arith, ok.low) in
    let all : 0 < rows_of_hint s l x.plan.dimension * x.plan.dimension = mul-pos (some_rows s l x.plan.dimension (shape_of_layout l ok.layout) low) low in
    omega (arith, length-hint x s records, all)

part_length : (x : Setting) (s : Scheme) (records : List (List ℕ)) (p : ℕ) → length (hint_part x s records p) ≡ part_len (length (hint_words x s records)) p
unfolding hint_part
part_length x s records p = length-take 65536 (drop (65536 * p) (hint_words x s records))
    ∙ ap (λ (n : ℕ). min 65536 n) (length-drop (65536 * p) (hint_words x s records))

parts_more : (x : Setting) (s : Scheme) (records : List (List ℕ)) (p : ℕ) →
    take (65536 * p) (hint_words x s records) ++ hint_part x s records p ≡ take (65536 * (p + 1)) (hint_words x s records)
unfolding hint_part
parts_more x s records p = let e : 65536 * (p + 1) ≡ 65536 * p + 65536 = omega arith in rw e (sym (take-add (65536 * p) 65536 (hint_words x s records)))

rows_are : (x : Setting) (records : List (List ℕ)) (numbers : List ℕ) →
    named_hint_rows x records numbers ≡ row_list (hint_matrix Simple x.plan records).cols (rows_of (hint_matrix Simple x.plan records) numbers)
unfolding named_hint_rows
rows_are x records numbers = ap (λ (n : ℕ). row_list n (rows_of (hint_matrix Simple x.plan records) numbers)) (sym (hint_sizes Simple x.plan records).cols)

pub known_some : (x : Setting) (h : History) (st : Standing) (o : Option ServerInfo) (y : ServerInfo) → KnownIs x h st o → o ≡ Some y → (st ≡ Reader)
    × IsKnownOf x h y
known_some x h st o y k e = let P : Option ServerInfo → Type 0 = λ z. KnownIs x h st z in subst P e k

-- ---- each kind of reply

module _ (law : RetrievalGivesTheRecord) (x : Setting) (seeds : List (List ℕ)) (k : ℕ) (h : History) (st : Standing) (c : ClientState) (g : GoodHistory x h)
    (i : ClientInv x h (seed_of seeds k) st c) where
  plan_ok : (v : ℕ) (records : List (List ℕ)) → HasVersion h v records → IsPlan x.plan (length records)
  plan_ok v records p = (g.versions v records p).plan

  welcomed : (v : ℕ) (records : List (List ℕ)) → HasVersion h v records → st ≡ Reader →
      IsTaken x seeds k h st c Hello (welcome_frame x v records)
      (takes_welcome Hello c x.plan (length records) v)
  welcomed v records p reader = rw (welcome_good c.profile x.plan (length records) v i.profile_is (plan_ok v records p) (version_positive x h v records g p)) (record {
    client = record {
      seed_is = i.seed_is;
      profile_is = i.profile_is;
      alive = i.alive;
      known = (reader, record { records = records; version_is = p; plan_is = refl; count_is = refl });
      hint = i.hint;
      call = tt;
    };
    no_fault = refl;
    phase = (refl, refl);
    right = ((records, p), tt);
    number = refl;
    told = refl;
    asks = λ s2 v2 q2 e2. absurd cc;
    next = λ f first e2. tt;
  })

  refused_sync : (s : Scheme) (v q code : ℕ) → IsTaken x seeds k h st c (Sync s v q) (frame.Refused code) (takes_refused (Sync s v q) c code)
  refused_sync s v q code = record {
    client = record { seed_is = i.seed_is; profile_is = i.profile_is; alive = i.alive; known = i.known; hint = i.hint; call = tt };
    no_fault = refl;
    phase = (refl, refl);
    right = (tt, tt);
    number = refl;
    told = refl;
    asks = λ s2 v2 q2 e2. absurd cc;
    next = λ f first e2. tt;
  }

  refused_delta : (since code : ℕ) → IsTaken x seeds k h st c (Delta since) (frame.Refused code) (takes_refused (Delta since) c code)
  refused_delta since code = record {
    client = record { seed_is = i.seed_is; profile_is = i.profile_is; alive = i.alive; known = i.known; hint = i.hint; call = tt };
    no_fault = refl;
    phase = (refl, refl);
    right = (tt, tt);
    number = refl;
    told = refl;
    asks = λ s2 v2 q2 e2. absurd cc;
    next = λ f first e2. tt;
  }

  refused_changes : (since code : ℕ) → IsTaken x seeds k h st c (Changes since) (frame.Refused code) (takes_refused (Changes since) c code)
  refused_changes since code = record {
    client = record { seed_is = i.seed_is; profile_is = i.profile_is; alive = i.alive; known = i.known; hint = i.hint; call = tt };
    no_fault = refl;
    phase = (refl, refl);
    right = (tt, tt);
    number = refl;
    told = refl;
    asks = λ s2 v2 q2 e2. absurd cc;
    next = λ f first e2. tt;
  }

  refused_ask : (j v n : ℕ) →
      IsTaken x seeds k h st c (Ask j v n) (refused refusal.Memory) (takes_refused (Ask j v n) c (code_of refusal.Memory))
  refused_ask j v n = record {
    client = record { seed_is = i.seed_is; profile_is = i.profile_is; alive = i.alive; known = i.known; hint = i.hint; call = tt };
    no_fault = refl;
    phase = (refl, refl);
    right = (inr (inr (refl, refl)), tt);
    number = refl;
    told = refl;
    asks = λ s2 v2 q2 e2. absurd cc;
    next = λ f first e2. tt;
  }

  module _ (y : ServerInfo) (at : c.known ≡ Some y) (known : (st ≡ Reader) × IsKnownOf x h y) where
    dimension_is : y.plan.dimension ≡ x.plan.dimension
    dimension_is = ap (λ (p : Plan). p.dimension) known.1.plan_is

    count_same : (n : ℕ) → shape_at y.plan n ≡ shape_at x.plan n
    count_same n = ap (λ (p : Plan). shape_at p n) known.1.plan_is

    shape_same : shape_known y ≡ shape_at x.plan (length known.1.records)
    shape_same = count_same y.count ∙ ap (shape_at x.plan) known.1.count_is

    current_good : (now : ℕ) (records : List (List ℕ)) → HasVersion h now records → is_current y now (length records) ≡ true
    current_good now records p = and_from _ _ (lt-ltb 0 now (version_positive x h now records g p))
        (plan_accepted x.plan (length records) _ (plan_ok now records p) (count_same (length records)))

    stale_good : (v now : ℕ) (records : List (List ℕ)) → HasVersion h now records → v < now →
        (not (now == v) && is_current y now (length records)) ≡ true
    stale_good v now records p lt =
        let ne : (now == v) ≡ false = ne_eqb now v (λ e. omega (arith, lt, e)) in
        rw ne (current_good now records p)

    is_reported : (now : ℕ) (records : List (List ℕ)) → HasVersion h now records →
        IsKnownOf x h (with_current y now (length records))
    is_reported now records p = record {
      records = records;
      version_is = p;
      plan_is = known.1.plan_is;
      count_is = refl;
    }

    stale_sync : (s : Scheme) (v q now : ℕ) (records : List (List ℕ)) → HasVersion h now records → v < now
        → IsTaken x seeds k h st c (Sync s v q) (frame.Stale now (length records)) (takes_stale (Sync s v q) c now (length records))
    stale_sync s v q now records p lt = rw (at, stale_good v now records p lt) (record {
      client = record { seed_is = i.seed_is; profile_is = i.profile_is; alive = i.alive; known = (known.0, is_reported now records p); hint = i.hint; call = tt };
      no_fault = refl;
      phase = (refl, refl);
      right = ((records, p), tt);
      number = refl;
      told = refl;
      asks = λ s2 v2 q2 e2. absurd cc;
      next = λ f first e2. tt;
    })

    stale_ask : (j v n now : ℕ) (records : List (List ℕ)) → HasVersion h now records → v < now
        → IsTaken x seeds k h st c (Ask j v n) (frame.Stale now (length records)) (takes_stale (Ask j v n) c now (length records))
    stale_ask j v n now records p lt = rw (at, stale_good v now records p lt) (record {
      client = record { seed_is = i.seed_is; profile_is = i.profile_is; alive = i.alive; known = (known.0, is_reported now records p); hint = i.hint; call = tt };
      no_fault = refl;
      phase = (refl, refl);
      right = (inr (inl (record { now = now; records = records; version_is = p; later = lt; reply_is = refl; event_is = refl })), tt);
      number = refl;
      told = refl;
      asks = λ s2 v2 q2 e2. absurd cc;
      next = λ f first e2. tt;
    })

    -- no rows can be given: the first part of the current version's hint is asked for
    parts_instead : (since now : ℕ) (records : List (List ℕ)) → HasVersion h now records
        → IsTaken x seeds k h st c (Delta since) (frame.NoDelta now (length records)) (takes_no_delta (Delta since) c now (length records))
    parts_instead since now records p = rw (at, current_good now records p) (record {
      client = record {
        seed_is = i.seed_is;
        profile_is = i.profile_is;
        alive = i.alive;
        known = (known.0, is_reported now records p);
        hint = tt;
        call = record {
          k = with_current y now (length records);
          known_is = refl;
          asked = refl;
          records = records;
          version_is = p;
          parts_are = refl;
          further = hint_long x Simple records (plan_ok now records p);
        };
      };
      no_fault = refl;
      phase = inl (refl, refl);
      right = (tt, tt);
      number = refl;
      told = sym (rw (eq-eqb k k refl) refl);
      asks = λ s2 v2 q2 e2.
          let a : s2 ≡ Simple = cc in
          let b : v2 ≡ now = cc in
          let d : q2 ≡ 0 = cc in
          (a, d, (length records, rw b refl));
      next = λ f first e2. sym (one_alike _ f e2);
    })

    parts_for_records : (since now : ℕ) (records : List (List ℕ)) → HasVersion h now records
        → IsTaken x seeds k h st c (Changes since) (frame.NoDelta now (length records)) (takes_no_delta (Changes since) c now (length records))
    parts_for_records since now records p = rw (at, current_good now records p) (record {
      client = record {
        seed_is = i.seed_is;
        profile_is = i.profile_is;
        alive = i.alive;
        known = (known.0, is_reported now records p);
        hint = tt;
        call = record {
          k = with_current y now (length records);
          known_is = refl;
          asked = refl;
          records = records;
          version_is = p;
          parts_are = refl;
          further = hint_long x Simple records (plan_ok now records p);
        };
      };
      no_fault = refl;
      phase = inl (refl, refl);
      right = (tt, tt);
      number = refl;
      told = sym (rw (eq-eqb k k refl) refl);
      asks = λ s2 v2 q2 e2.
          let a : s2 ≡ Simple = cc in
          let b : v2 ≡ now = cc in
          let d : q2 ≡ 0 = cc in
          (a, d, (length records, rw b refl));
      next = λ f first e2. sym (one_alike _ f e2);
    })

    -- a Delta makes the hint held that of its version
    module _ (since : ℕ) (r : Frame) (d : IsDeltaTo x h since r) (calls : c.call ≡ Delta since) (a : DeltaIs c since) where
      abbrev new : WordMatrix
      new = hint_matrix Simple x.plan d.records

      held : HintIs x h (Some a.hint)
      held = subst (λ (o : Option Hint). HintIs x h o) a.hint_is i.hint

      old_is : a.hint.matrix ≡ hint_matrix Simple x.plan d.before
      old_is =
          let there : HasVersion h since held.0 = subst (λ (n : ℕ). HasVersion h n held.0) a.version_is held.1 in
          held.2 ∙ ap (λ (s : Scheme). hint_matrix s x.plan held.0) a.scheme_is
          ∙ ap (λ (records : List (List ℕ)). hint_matrix Simple x.plan records) (one_version h since held.0 d.before there d.since_is)

      frame_is : r ≡ frame.Delta since d.now (length d.records) (row_list new.cols (rows_of new d.numbers))
      frame_is = d.reply_is ∙ ap (λ (rows : RowList). frame.Delta since d.now (length d.records) rows) (rows_are x d.records d.numbers)

      good : is_delta y since since d.now (length d.records) new.cols d.numbers ≡ true
      good =
          and_from (since == since) _ (eq-eqb since since refl)
          (and_from (is_current y d.now (length d.records)) _ (current_good d.now d.records d.version_is)
          (and_from (new.cols == y.plan.dimension) _ (eq-eqb new.cols y.plan.dimension ((hint_sizes Simple x.plan d.records).cols ∙ sym dimension_is))
          (and_from (nat_le (length d.numbers) 1024) _ (le-leb (length d.numbers) 1024 d.few)
          (ap (λ (l : Shape). are_ascending 0 (digit_rows l) d.numbers) shape_same ∙ d.ascending))))

      moved_is : reaction_to_reply c (frame.Delta since d.now (length d.records) (row_list new.cols (rows_of new d.numbers)))
          ≡ ended (record c {
            known = Some (with_current y d.now (length d.records));
            hint = Some (record a.hint { version = d.now; matrix = new });
          }) (Synced Simple d.now)
      moved_is =
          let was = hint_sizes Simple x.plan d.before in
          let is = hint_sizes Simple x.plan d.records in
          delta_makes_it c y a.hint since d.now (length d.records) new d.numbers at a.hint_is calls good
          (subst (λ (m : WordMatrix). IsWhole m) (sym old_is) was.whole) is.whole
          (ap (λ (m : WordMatrix). m.rows) old_is ∙ was.rows ∙ sym is.rows)
          (ap (λ (m : WordMatrix). m.cols) old_is ∙ was.cols ∙ sym is.cols)
          (λ j lt. named j (d.named j (subst (λ (n : ℕ). j < n) is.rows lt)))
        where
          named : (j : ℕ) → Contains d.numbers j ⊎ (row (hint_matrix Simple x.plan d.before) j ≡ row new j) →
              Contains d.numbers j ⊎ (row a.hint.matrix j ≡ row new j)
          named j (inl has) = inl has
          named j (inr same) = inr (ap (λ (m : WordMatrix). row m j) old_is ∙ same)

      delta_came : IsTaken x seeds k h st c (Delta since) r (reaction_to_reply c r)
      delta_came =
          let P : Frame → Type 0 = λ f. IsTaken x seeds k h st c (Delta since) f (reaction_to_reply c f) in
          subst P (sym frame_is) (subst (λ (t : AfterReply). IsTaken x seeds k h st c (Delta since)
          (frame.Delta since d.now (length d.records) (row_list new.cols (rows_of new d.numbers))) t) (sym moved_is) (record {
            client = record {
              seed_is = i.seed_is;
              profile_is = i.profile_is;
              alive = i.alive;
              known = (known.0, is_reported d.now d.records d.version_is);
              hint = (d.records, d.version_is, ap (λ (s : Scheme). hint_matrix s x.plan d.records) (sym a.scheme_is));
              call = tt;
            };
            no_fault = refl;
            phase = (refl, refl);
            right = ((d.records, d.version_is), tt);
            number = refl;
            told = ap (λ (s : Scheme). Some (s, d.now)) a.scheme_is ∙ sym (rw (eq-eqb k k refl) refl);
            asks = λ s2 v2 q2 e2. absurd cc;
            next = λ f first e2. tt;
          }))

    -- Changes move the hint held to that of its version
    module _ (since : ℕ) (r : Frame) (d : IsChangesTo x h since r) (calls : c.call ≡ Changes since) (a : DeltaIs c since) where
      abbrev entries : List ℕ
      entries = entries_bytes (changes_between (slots_with_blanks x.plan (length d.records) d.before) (slots x.plan d.records))

      abbrev newer : WordMatrix
      newer = hint_matrix Simple x.plan d.records

      all_of : (records : List (List ℕ)) → AreRecordsOf x.plan records → All (IsRecordOf x.plan) records
      all_of records each = λ j z lt. subst (IsRecordOf x.plan) (get_or_default records j [] z lt) (each.each j lt)

      held_now : HintIs x h (Some a.hint)
      held_now = subst (λ (o : Option Hint). HintIs x h o) a.hint_is i.hint

      was_is : a.hint.matrix ≡ hint_matrix Simple x.plan d.before
      was_is =
          let there : HasVersion h since held_now.0 = subst (λ (n : ℕ). HasVersion h n held_now.0) a.version_is held_now.1 in
          held_now.2 ∙ ap (λ (s : Scheme). hint_matrix s x.plan held_now.0) a.scheme_is
          ∙ ap (λ (records : List (List ℕ)). hint_matrix Simple x.plan records) (one_version h since held_now.0 d.before there d.since_is)

      ok : IsPlan x.plan (length d.records)
      ok = (g.versions d.now d.records d.version_is).plan

      newly : All (IsRecordOf x.plan) d.records
      newly = all_of d.records (g.versions d.now d.records d.version_is)

      earlier : All (IsRecordOf x.plan) d.before
      earlier = all_of d.before (g.versions since d.before d.since_is)

      plan_same : y.plan ≡ x.plan
      plan_same = known.1.plan_is

      accepted : is_changes y since since d.now (length d.records) entries ≡ true
      accepted =
          and_from (since == since) _ (eq-eqb since since refl)
          (and_from (is_current y d.now (length d.records)) _ (current_good d.now d.records d.version_is)
          (and_from (are_entries (shape_at y.plan (length d.records)) entries) (have_slots y.plan entries)
          (ap (λ (p : Plan). are_entries (shape_at p (length d.records)) entries) plan_same
          ∙ entries_good x.plan d.before d.records ok newly earlier d.more)
          (ap (λ (p : Plan). have_slots p entries) plan_same ∙ slots_good x.plan d.before d.records ok newly earlier d.more)))

      hint_now : hint_with_entries y.plan a.hint d.now (length d.records) entries ≡ record a.hint { version = d.now; matrix = newer }
      hint_now =
          ap (λ (p : Plan). hint_with_entries p a.hint d.now (length d.records) entries) plan_same
          ∙ ap (λ (m : WordMatrix). record a.hint { version = d.now; matrix = m })
          (ap (moved (shape_at x.plan (length d.records)) (first_public (shape_at x.plan (length d.records)) x.plan.dimension x.plan.seed)
          (changes_in x.plan.record_len entries)) was_is
          ∙ between_moves x.plan d.before d.records ok newly earlier d.more)

      changed_is : reaction_to_reply c (frame.Changes since d.now (length d.records) entries)
          ≡ ended (record c {
            known = Some (with_current y d.now (length d.records));
            hint = Some (record a.hint { version = d.now; matrix = newer });
          }) (Synced Simple d.now)
      changed_is =
          changes_taken c y a.hint since since d.now (length d.records) entries calls at a.hint_is accepted
          ∙ ap (λ (z : Hint). ended (record c { known = Some (with_current y d.now (length d.records)); hint = Some z }) (Synced Simple d.now)) hint_now

      changes_came : IsTaken x seeds k h st c (Changes since) r (reaction_to_reply c r)
      changes_came =
          let P : Frame → Type 0 = λ f. IsTaken x seeds k h st c (Changes since) f (reaction_to_reply c f) in
          subst P (sym d.reply_is) (subst (λ (t : AfterReply). IsTaken x seeds k h st c (Changes since)
          (frame.Changes since d.now (length d.records) entries) t) (sym changed_is) (record {
            client = record {
              seed_is = i.seed_is;
              profile_is = i.profile_is;
              alive = i.alive;
              known = (known.0, is_reported d.now d.records d.version_is);
              hint = (d.records, d.version_is, ap (λ (s : Scheme). hint_matrix s x.plan d.records) (sym a.scheme_is));
              call = tt;
            };
            no_fault = refl;
            phase = (refl, refl);
            right = ((d.records, d.version_is), tt);
            number = refl;
            told = ap (λ (s : Scheme). Some (s, d.now)) a.scheme_is ∙ sym (rw (eq-eqb k k refl) refl);
            asks = λ s2 v2 q2 e2. absurd cc;
            next = λ f first e2. tt;
          }))

    -- the layout is that of the version asked
    layout_of : (v : ℕ) (records : List (List ℕ)) → y.version ≡ v → HasVersion h v records → shape_known y ≡ shape_at x.plan (length records)
    layout_of v records e p =
        let same : known.1.records ≡ records =
        one_version h v known.1.records records (let P : ℕ → Type 0 = λ n. HasVersion h n known.1.records in subst P e known.1.version_is) p in
        shape_same ∙ ap (λ (r : List (List ℕ)). shape_at x.plan (length r)) same

    module _ (s : Scheme) (v p : ℕ) (r : SyncIs x h s v p c.known c.parts) (e : y.version ≡ v) where
      abbrev total : ℕ
      total = hint_len s (shape_known y) y.plan.dimension

      layout_is : shape_known y ≡ shape_at x.plan (length r.records)
      layout_is = layout_of v r.records e r.version_is

      total_is : total ≡ length (hint_words x s r.records)
      total_is = ap (λ (l : Shape). hint_len s l y.plan.dimension) layout_is ∙ ap (hint_len s (shape_at x.plan (length r.records))) dimension_is
          ∙ sym (length-hint x s r.records)

      made : (words : List ℕ) → words ≡ hint_words x s r.records → record { rows = rows_of_hint s (shape_known y) y.plan.dimension; cols = y.plan.dimension; words = words }
          ≡ hint_matrix s x.plan r.records
      made words all =
          let z = hint_sizes s x.plan r.records in
          matrix_same (hint_matrix s x.plan r.records) (rows_of_hint s (shape_known y) y.plan.dimension) y.plan.dimension words
          (ap (λ (l : Shape). rows_of_hint s l y.plan.dimension) layout_is ∙ ap (rows_of_hint s (shape_at x.plan (length r.records))) dimension_is ∙ sym z.rows)
          (dimension_is ∙ sym z.cols)
          (all ∙ hint_list_is x s r.records)

      part_good : is_part s total v p (scheme_byte s) v p (hint_part x s r.records p) ≡ true
      part_good =
          and_from (scheme_byte s == scheme_byte s) _ (eq-eqb (scheme_byte s) (scheme_byte s) refl)
          (and_from (v == v) _ (eq-eqb v v refl) (and_from (p == p) _ (eq-eqb p p refl)
          (eq-eqb _ _ (part_length x s r.records p ∙ ap (λ (n : ℕ). part_len n p) (sym total_is)))))

      more : (words : List ℕ) → words ≡ take (65536 * (p + 1)) (hint_words x s r.records)
          → ((length words == total) ≡ true) ⊎ ((length words == total) ≡ false)
          → IsTaken x seeds k h st c (Sync s v p) (frame.HintPart (scheme_byte s) v p (hint_part x s r.records p)) (reaction_to_part s y c v p words)
      more words all (inl t) =
          let size : length words ≡ length (hint_words x s r.records) = eqb-true _ _ t ∙ total_is in
          let same : length (take (65536 * (p + 1)) (hint_words x s r.records)) ≡ length (hint_words x s r.records) = sym (ap length all) ∙ size in
          let whole : words ≡ hint_words x s r.records = all
          ∙ take_all (65536 * (p + 1)) (hint_words x s r.records) (omega (arith, length-take (65536 * (p + 1)) (hint_words x s r.records), same)) in
          rw t (record {
            client = record { seed_is = i.seed_is; profile_is = i.profile_is; alive = i.alive; known = i.known; hint = (r.records, r.version_is, made words whole); call = tt };
            no_fault = refl;
            phase = (refl, refl);
            right = ((r.records, r.version_is), tt);
            number = refl;
            told = rw (eq-eqb k k refl) refl;
            asks = λ s2 v2 q2 e2. absurd cc;
            next = λ f first e2. tt;
          })
      more words all (inr t) =
          let ne : length words ≡ length (hint_words x s r.records) → ⊥ = λ q. eqb-false _ _ t (q ∙ sym total_is) in
          let less : 65536 * (p + 1) < length (hint_words x s r.records) =
          omega (arith, length-take (65536 * (p + 1)) (hint_words x s r.records), ap length all, ne) in
          rw t (record {
            client = record {
              seed_is = i.seed_is;
              profile_is = i.profile_is;
              alive = i.alive;
              known = i.known;
              hint = i.hint;
              call = record { k = y; known_is = at; asked = e; records = r.records; version_is = r.version_is; parts_are = all; further = less };
            };
            no_fault = refl;
            phase = inl (refl, refl);
            right = (tt, tt);
            number = refl;
            told = sym (rw (eq-eqb k k refl, ne_eqb (p + 1) 0 (λ e. omega arith)) refl);
            asks = λ s2 v2 q2 e2.
                let a : s2 ≡ s = cc in
                let b : v2 ≡ v = cc in
                let d : q2 ≡ p + 1 = cc in
                (a, b, d, (hint_part x s r.records p, rw (a, b) refl));
            next = λ f first e2. sym (one_alike _ f e2);
          })

      part_step : takes_part (Sync s v p) c (scheme_byte s) v p (hint_part x s r.records p) ≡ reaction_to_part s y c v p (c.parts ++ hint_part x s r.records p)
      part_step =
          ap (λ (o : Option ServerInfo). takes_asked_part o s c v p (scheme_byte s) v p (hint_part x s r.records p)) at
          ∙ ap (λ (b : Bool). cond b (reaction_to_part s y c v p (c.parts ++ hint_part x s r.records p)) (faulty c BadReply)) part_good

      part_came : IsTaken x seeds k h st c (Sync s v p) (frame.HintPart (scheme_byte s) v p (hint_part x s r.records p))
          (takes_part (Sync s v p) c (scheme_byte s) v p (hint_part x s r.records p))
      part_came =
          subst (λ (t : AfterReply). IsTaken x seeds k h st c (Sync s v p) (frame.HintPart (scheme_byte s) v p (hint_part x s r.records p)) t) (sym part_step)
          (more (c.parts ++ hint_part x s r.records p) (ap (λ (w : List ℕ). w ++ hint_part x s r.records p) r.parts_are ∙ parts_more x s r.records p)
          (cases_Bool (length (c.parts ++ hint_part x s r.records p) == total)))

    module _ (j v n : ℕ) (records : List (List ℕ)) (p : HasVersion h v records) (lt : j < y.count) (e : y.version ≡ v) (hint : Hint)
        (held : c.hint ≡ Some hint) (ve : hint.version ≡ v) where
      abbrev s : Scheme
      s = scheme_held c.hint

      se : hint.scheme ≡ s
      se = sym (ap scheme_held held)

      abbrev asked : AcceptedAsk
      asked = record { index = j; scheme = s; version = v; number = n }

      abbrev answer : List ℕ
      answer = given_words x.plan records (seed_of seeds k) asked

      count_is : y.count ≡ length records
      count_is = ap (λ (l : Shape). l.count) (layout_of v records e p)

      hint_right : hint.matrix ≡ hint_matrix s x.plan records
      hint_right =
          let f : HintIs x h (Some hint) = subst (λ (o : Option Hint). HintIs x h o) held i.hint in
          f.2 ∙ ap (λ (r : List (List ℕ)). hint_matrix hint.scheme x.plan r) (one_version h v f.0 records (subst (λ (w : ℕ). HasVersion h w f.0) ve f.1) p)
          ∙ ap (λ (t : Scheme). hint_matrix t x.plan records) se

      read_is : event_of y.plan j v (reading hint.scheme (shape_known y) hint.matrix c.seed n j answer)
          ≡ event_read j v (record_read x.plan records (seed_of seeds k) asked)
      read_is = rw (known.1.plan_is, count_is, hint_right, se, i.seed_is) refl

      words_good : is_answer hint.scheme y v (scheme_byte s) v answer ≡ true
      words_good = rw (se, known.1.plan_is, count_is)
          (and_from (scheme_byte s == scheme_byte s) _ (eq-eqb (scheme_byte s) (scheme_byte s) refl)
          (and_from (v == v) _ (eq-eqb v v refl)
          (eq-eqb _ _ (length-answer s x.plan records (asked_words x.plan records (seed_of seeds k) asked)))))

      answer_right : IsAnswered x h (seed_of seeds k) asked (frame.Answer (scheme_byte s) v answer)
          (event_of y.plan j v (reading hint.scheme (shape_known y) hint.matrix c.seed n j answer))
      answer_right =
          let r = g.versions v records p in
          let inside : j < length records = omega (arith, lt, count_is) in
          record {
            records = records;
            version_is = p;
            inside = inside;
            answer_is = refl;
            event_is = read_is;
            quiet = λ q. read_is ∙ ap (event_read j v)
                (law s x.plan records (seed_of seeds k) n j r.plan inside (r.each j inside)
                (inl q));
            certain = λ q. read_is ∙ ap (event_read j v)
                (law s x.plan records (seed_of seeds k) n j r.plan inside (r.each j inside)
                (inr q));
          }

      answer_step : takes_answer (Ask j v n) c (scheme_byte s) v answer
          ≡ ended c (event_of y.plan j v (reading hint.scheme (shape_known y) hint.matrix c.seed n j answer))
      answer_step =
          ap (λ (o : Option ServerInfo). answered o c.hint c j v n (scheme_byte s) v answer) at
          ∙ ap (λ (o : Option Hint). answered (Some y) o c j v n (scheme_byte s) v answer) held
          ∙ ap (λ (b : Bool). cond b (ended c (event_of y.plan j v (reading hint.scheme (shape_known y) hint.matrix c.seed n j answer)))
          (faulty c BadReply)) words_good

      answer_came : IsTaken x seeds k h st c (Ask j v n) (frame.Answer (scheme_byte s) v answer) (takes_answer (Ask j v n) c (scheme_byte s) v answer)
      answer_came = subst (λ (t : AfterReply). IsTaken x seeds k h st c (Ask j v n) (frame.Answer (scheme_byte s) v answer) t) (sym answer_step) (record {
        client = record { seed_is = i.seed_is; profile_is = i.profile_is; alive = i.alive; known = i.known; hint = i.hint; call = tt };
        no_fault = refl;
        phase = (refl, refl);
        right = (inl answer_right, tt);
        number = refl;
        told = refl;
        asks = λ s2 v2 q2 e2. absurd cc;
        next = λ f first e2. tt;
      })

  by_call : (f : Call → AfterReply) (call : Call) (r : Frame) → c.call ≡ call → IsTaken x seeds k h st c call r (f call) → IsTaken x seeds k h st c call r (f c.call)
  by_call f call r e t = subst (λ (a : Call). IsTaken x seeds k h st c call r (f a)) (sym e) t

  reply_taken : (call : Call) (r : Frame) → c.call ≡ call → CallIs x h c call → IsReply x h st (seed_of seeds k) (scheme_held c.hint) call r →
      IsTaken x seeds k h st c call r (reaction_to_reply c r)
  reply_taken Idle r e a p = absurd p
  reply_taken Hello r e a p =
      rw p.1.3 (by_call (λ (q : Call). takes_welcome q c x.plan
      (length p.1.1) p.1.0) Hello (welcome_frame x p.1.0 p.1.1) e
      (welcomed p.1.0 p.1.1 p.1.2 p.0))
  reply_taken (Sync s v m) r e a (inl p) =
      rw p (by_call (λ (q : Call). takes_refused q c (code_of refusal.Memory)) (Sync s v m) (refused refusal.Memory) e
      (refused_sync s v m (code_of refusal.Memory)))
  reply_taken (Sync s v m) r e a (inr (inl p)) =
      let known = known_some x h st c.known a.k i.known a.known_is in
      rw p.4 (by_call (λ (q : Call). takes_stale q c p.0 (length p.1)) (Sync s v m) (frame.Stale p.0 (length p.1)) e
      (stale_sync a.k a.known_is known s v m p.0 p.1 p.2 p.3))
  reply_taken (Sync s v m) r e a (inr (inr p)) =
      let known = known_some x h st c.known a.k i.known a.known_is in
      let same : p.0 ≡ a.records = one_version h v p.0 a.records p.1 a.version_is in
      rw (p.2, same) (by_call (λ (q : Call). takes_part q c (scheme_byte s) v m (hint_part x s a.records m)) (Sync s v m)
      (frame.HintPart (scheme_byte s) v m (hint_part x s a.records m)) e (part_came a.k a.known_is known s v m a a.asked))
  reply_taken (Delta since) r e a (inl p) =
      rw p (by_call (λ (q : Call). takes_refused q c (code_of refusal.Memory)) (Delta since) (refused refusal.Memory) e
      (refused_delta since (code_of refusal.Memory)))
  reply_taken (Delta since) r e a (inr (inl p)) =
      let known = known_some x h st c.known a.k i.known a.known_is in
      rw p.3 (by_call (λ (q : Call). takes_no_delta q c p.0 (length p.1)) (Delta since) (frame.NoDelta p.0 (length p.1)) e
      (parts_instead a.k a.known_is known since p.0 p.1 p.2))
  reply_taken (Delta since) r e a (inr (inr d)) =
      let known = known_some x h st c.known a.k i.known a.known_is in
      delta_came a.k a.known_is known since r d e a
  reply_taken (Changes since) r e a (inl p) =
      rw p (by_call (λ (q : Call). takes_refused q c (code_of refusal.Memory)) (Changes since) (refused refusal.Memory) e
      (refused_changes since (code_of refusal.Memory)))
  reply_taken (Changes since) r e a (inr (inl p)) =
      let known = known_some x h st c.known a.0.k i.known a.0.known_is in
      rw p.3 (by_call (λ (q : Call). takes_no_delta q c p.0 (length p.1)) (Changes since) (frame.NoDelta p.0 (length p.1)) e
      (parts_for_records a.0.k a.0.known_is known since p.0 p.1 p.2))
  reply_taken (Changes since) r e a (inr (inr d)) =
      let known = known_some x h st c.known a.0.k i.known a.0.known_is in
      changes_came a.0.k a.0.known_is known since r d e a.0
  reply_taken (Ask j v n) r e a (inl p) =
      rw p (by_call (λ (q : Call). takes_refused q c (code_of refusal.Memory)) (Ask j v n) (refused refusal.Memory) e (refused_ask j v n))
  reply_taken (Ask j v n) r e a (inr (inl p)) =
      let known = known_some x h st c.known a.k i.known a.known_is in
      rw p.4 (by_call (λ (q : Call). takes_stale q c p.0 (length p.1)) (Ask j v n) (frame.Stale p.0 (length p.1)) e
      (stale_ask a.k a.known_is known j v n p.0 p.1 p.2 p.3))
  reply_taken (Ask j v n) r e a (inr (inr p)) =
      let known = known_some x h st c.known a.k i.known a.known_is in
      let s : Scheme = scheme_held c.hint in
      let w : List ℕ = given_words x.plan p.0 (seed_of seeds k) (record { index = j; scheme = s; version = v; number = n }) in
      rw p.2 (by_call (λ (q : Call). takes_answer q c (scheme_byte s) v w) (Ask j v n) (frame.Answer (scheme_byte s) v w) e
      (answer_came a.k a.known_is known j v n p.0 p.1 a.inside a.asked a.hint a.hint_is a.version_is))
  reply_taken Edit r e a p = absurd p
  reply_taken Append r e a p = absurd p
  reply_taken Publish r e a p = absurd p

  pub taken : (r : Frame) → IsReply x h st (seed_of seeds k) (scheme_held c.hint) c.call r → IsTaken x seeds k h st c c.call r (reaction_to_reply c r)
  taken r p = reply_taken c.call r refl i.call p
