-- What a later history keeps.
use Rattle.std.proofs.Common.{◌≡◌, ℕ, zero, suc, ◌-◌, ◌<◌, ◌≤◌, ◌⊎◌, List, [], ◌∷◌, length, Option, Some, None, refl, sym, ap, ◌∙◌, arith, inl, inr, ◌+◌, ◌++◌, true}
use Rattle.std.specs.Prelude.{slice_get, slice_set}
use Rattle.std.specs.List.{AllByRecursion}
use Rattle.std.proofs.lemmas.Bool.{cases_lt, le-ltb}
use Rattle.std.proofs.lemmas.Option.{slice_get_within}
use Rattle.std.proofs.lemmas.List.{length-set, length-append, get_or_append_left}
use Rattle.digit_pack.specs.Layout.{record_at, is_layout}
use Rattle.pir_schemes.specs.declared.scheme.Scheme.{Scheme}
use Rattle.pir_schemes.specs.declared.plan.Plan.{Plan}
use Rattle.pir_schemes.specs.Plans.{IsRecordOf, shape_at}
use Rattle.frame_codec.specs.declared.frame.Frame.{Frame}
use Rattle.frame_codec.specs.declared.frame.Frame.TheVariants.{Query}
use Rattle.version_store.specs.Histories.{History, current_version, records_of, after_edit, published, after_append}
use Rattle.server_core.specs.declared.standing.Standing.{Standing}
use Rattle.server_core.specs.Serving.{Setting}
use Rattle.client_core.specs.declared.state.ClientState.{ClientState}
use Rattle.client_core.specs.declared.state.ServerInfo.{ServerInfo}
use Rattle.client_core.specs.declared.state.Hint.{Hint}
use Rattle.client_core.specs.declared.state.Call.{Call}
use Rattle.client_core.specs.States.{scheme_held}
use Rattle.client_core.specs.declared.state.Call.TheVariants.{Idle, Hello, Sync, Delta, Changes, Ask, Edit, Append, Publish}
use Rattle.client_core.specs.declared.state.Event.{Event}
use Rattle.client_core.specs.declared.state.Event.TheVariants.{Welcomed, Synced, Retrieved, Unreadable, Stale, Done, Refused}
use Rattle.pir_world.specs.declared.steps.Outcome.TheVariants.{Published, Reported, Failed}
use Rattle.pir_world.specs.Runs.{ClientLink, AcceptedAsk, LogEntry, Served, Ended, Plain}
use Rattle.pir_world.specs.Versions.{HasVersion, IsVersion, HintIs, seed_of}
use Rattle.pir_world.specs.Headlines.{IsRightEnd, IsRightEvent, IsRight}
use Rattle.pir_world.specs.Invariants.{AreRecordsOf, GoodHistory, IsKnownOf, KnownIs, CallIs, IsReplyOf, IsReply, InFlight, IsDuringCall, LinkInvariant}
use Rattle.std.proofs.Math.Seq.{get_or-append_seam}
use Rattle.digit_pack.proofs.Layouts.{layout_means}

-- each version of one history is one of the other
abbrev pub IsLater : History → History → Type 0
IsLater h h2 = (v : ℕ) (records : List (List ℕ)) → HasVersion h v records → HasVersion h2 v records

-- the records of a version up to the current one
pub records_at : (h : History) (v : ℕ) → v ≤ current_version h → records_of h v ≡ slice_get (h.current ∷ h.past) (current_version h - v)
records_at h v le = rw (le-ltb (current_version h) v le) refl

pub later_published : (h : History) → IsLater h (published h)
later_published h v records p =
    let e : current_version (published h) - v ≡ suc (current_version h - v) = omega (arith, p.0) in
    let le : v ≤ current_version (published h) = omega (arith, p.0) in
    (le, records_at (published h) v le ∙ ap (slice_get (h.draft ∷ h.current ∷ h.past)) e ∙ sym (records_at h v p.0) ∙ p.1)

pub same_history : (h : History) → IsLater h h
same_history h v records p = p

pub newest : (h : History) → HasVersion h (current_version h) h.current
newest h =
    let z : current_version h - current_version h ≡ 0 = omega arith in
    let le : current_version h ≤ current_version h = omega arith in
    (le, records_at h (current_version h) le ∙ ap (slice_get (h.current ∷ h.past)) z)

version_cases : (h : History) (v : ℕ) (records : List (List ℕ)) → HasVersion (published h) v records → HasVersion h v records ⊎ (records ≡ h.draft)
version_cases h v records p = elim (cases_lt (current_version h) v) [
  | inl lt ↦
      let z : current_version (published h) - v ≡ 0 = omega (arith, lt) in
      let e : Some h.draft ≡ Some records = sym (records_at (published h) v p.0 ∙ ap (slice_get (h.draft ∷ h.current ∷ h.past)) z) ∙ p.1 in
      inr (cc)
  | inr le ↦
      let e : current_version (published h) - v ≡ suc (current_version h - v) = omega (arith, le) in
      inl (le, records_at h v le ∙ sym (records_at (published h) v p.0 ∙ ap (slice_get (h.draft ∷ h.current ∷ h.past)) e) ∙ p.1)
]

pub version_positive : (x : Setting) (h : History) (v : ℕ) (records : List (List ℕ)) → GoodHistory x h → HasVersion h v records → 0 < v
version_positive x h v records g p =
    omega (arith, g.first, slice_get_within (h.current ∷ h.past) (current_version h - v) records (sym (records_at h v p.0) ∙ p.1))

pub one_version : (h : History) (v : ℕ) (xs ys : List (List ℕ)) → HasVersion h v xs → HasVersion h v ys → xs ≡ ys
one_version h v xs ys p q = let e : Some xs ≡ Some ys = sym p.1 ∙ q.1 in cc

pub good_published : (x : Setting) (h : History) → GoodHistory x h → GoodHistory x (published h)
good_published x h g = record {
  first = g.first;
  versions = λ v records p. elim (version_cases h v records p) [ inl q ↦ g.versions v records q | inr e ↦ rw e g.draft ];
  draft = g.draft;
  growing = (omega arith, g.growing);
}

record_set : (p : Plan) (records : List (List ℕ)) (i j : ℕ) (bytes : List ℕ) → IsRecordOf p bytes →
    IsRecordOf p (record_at records j) → IsRecordOf p (record_at (slice_set records i bytes) j)
record_set p [] i j bytes new old = old
record_set p (r ∷ rs) zero zero bytes new old = new
record_set p (r ∷ rs) zero (suc j) bytes new old = old
record_set p (r ∷ rs) (suc i) zero bytes new old = old
record_set p (r ∷ rs) (suc i) (suc j) bytes new old = record_set p rs i j bytes new old

edited_records : (p : Plan) (records : List (List ℕ)) (i : ℕ) (bytes : List ℕ) → IsRecordOf p bytes → AreRecordsOf p records →
    AreRecordsOf p (slice_set records i bytes)
edited_records p records i bytes fits r =
    let n = length-set records i bytes in
    record {
      plan = rw n r.plan;
      each = λ j lt. record_set p records i j bytes fits (r.each j (omega (arith, lt, n)));
    }

pub good_edited : (x : Setting) (h : History) (i : ℕ) (bytes : List ℕ) → IsRecordOf x.plan bytes → GoodHistory x h →
    GoodHistory x (after_edit i bytes h)
good_edited x h i bytes fits g = record {
  first = g.first;
  versions = λ v records p. g.versions v records p;
  draft = edited_records x.plan h.draft i bytes fits g.draft;
  growing = (omega (arith, length-set h.draft i bytes, g.growing.0), g.growing.1);
}

appended_records : (p : Plan) (records : List (List ℕ)) (bytes : List ℕ) → IsRecordOf p bytes → is_layout (shape_at p (length records + 1)) ≡ true →
    AreRecordsOf p records → AreRecordsOf p (records ++ bytes ∷ [])
appended_records p records bytes fits room r =
    let n : length (records ++ bytes ∷ []) ≡ length records + 1 = omega (arith, length-append records (bytes ∷ [])) in
    record {
      plan = rw n (record { form = r.plan.form; layout = layout_means (shape_at p (length records + 1)) room; low = r.plan.low; high = r.plan.high });
      each = λ j lt. elim (cases_lt j (length records)) [
        | inl old ↦ rw (get_or_append_left records (bytes ∷ []) [] j old) (r.each j old)
        | inr new ↦
            let last : j ≡ length records = omega (arith, lt, n, new) in
            rw (last, get_or-append_seam records bytes [] []) fits
      ];
    }

pub good_appended : (x : Setting) (h : History) (bytes : List ℕ) → IsRecordOf x.plan bytes → is_layout (shape_at x.plan (length h.draft + 1)) ≡ true →
    GoodHistory x h → GoodHistory x (after_append bytes h)
good_appended x h bytes fits room g = record {
  first = g.first;
  versions = λ v records p. g.versions v records p;
  draft = appended_records x.plan h.draft bytes fits room g.draft;
  growing = (omega (arith, length-append h.draft (bytes ∷ []), g.growing.0), g.growing.1);
}

-- ---- what is said of versions

module _ (x : Setting) (h h2 : History) (later : IsLater h h2) where
  version_later : (v : ℕ) → IsVersion h v → IsVersion h2 v
  version_later v p = (p.0, later _ _ p.1)

  known_of_later : (y : ServerInfo) → IsKnownOf x h y → IsKnownOf x h2 y
  known_of_later y k = record {
    records = k.records;
    version_is = later _ _ k.version_is;
    plan_is = k.plan_is;
    count_is = k.count_is;
  }

  known_later : (st : Standing) (k : Option ServerInfo) → KnownIs x h st k → KnownIs x h2 st k
  known_later st None k = tt
  known_later st (Some y) k = (k.0, known_of_later y k.1)

  pub hint_later : (o : Option Hint) → HintIs x h o → HintIs x h2 o
  hint_later None p = tt
  hint_later (Some y) p = (p.0, later _ _ p.1, p.2)

  call_later : (c : ClientState) (call : Call) → CallIs x h c call → CallIs x h2 c call
  call_later c Idle p = tt
  call_later c Hello p = p
  call_later c (Sync scheme v p) q = record {
    k = q.k;
    known_is = q.known_is;
    asked = q.asked;
    records = q.records;
    version_is = later _ _ q.version_is;
    parts_are = q.parts_are;
    further = q.further;
  }
  call_later c (Delta since) q = q
  call_later c (Changes since) q = q
  call_later c (Ask i v n) q = q
  call_later c Edit q = q
  call_later c Append q = q
  call_later c Publish q = q

  reply_of_later : (v : ℕ) (r : Frame) (answer : List (List ℕ) → Frame) → IsReplyOf x h v r answer → IsReplyOf x h2 v r answer
  reply_of_later v r answer (inl e) = inl e
  reply_of_later v r answer (inr (inl p)) = inr (inl (p.0, p.1, later _ _ p.2, p.3, p.4))
  reply_of_later v r answer (inr (inr p)) = inr (inr (p.0, later _ _ p.1, p.2))

  reply_later : (st : Standing) (seed : List ℕ) (z : Scheme) (call : Call) (r : Frame) → IsReply x h st seed z call r → IsReply x h2 st seed z call r
  reply_later st seed z Idle r p = p
  reply_later st seed z Hello r p = (p.0, (p.1.0, p.1.1, later _ _ p.1.2, p.1.3))
  reply_later st seed z (Sync s v p) r q = reply_of_later v r _ q
  reply_later st seed z (Delta since) r (inl e) = inl e
  reply_later st seed z (Delta since) r (inr (inl p)) = inr (inl (p.0, p.1, later _ _ p.2, p.3))
  reply_later st seed z (Delta since) r (inr (inr d)) =
      inr (inr (record {
        now = d.now;
        records = d.records;
        version_is = later _ _ d.version_is;
        before = d.before;
        since_is = later _ _ d.since_is;
        numbers = d.numbers;
        few = d.few;
        ascending = d.ascending;
        named = d.named;
        reply_is = d.reply_is;
      }))
  reply_later st seed z (Changes since) r (inl e) = inl e
  reply_later st seed z (Changes since) r (inr (inl p)) = inr (inl (p.0, p.1, later _ _ p.2, p.3))
  reply_later st seed z (Changes since) r (inr (inr d)) =
      inr (inr (record {
        now = d.now;
        records = d.records;
        version_is = later _ _ d.version_is;
        before = d.before;
        since_is = later _ _ d.since_is;
        more = d.more;
        reply_is = d.reply_is;
      }))
  reply_later st seed z (Ask i v n) r q = reply_of_later v r _ q
  reply_later st seed z Edit r q = q
  reply_later st seed z Append r q = q
  reply_later st seed z Publish r q = q

  flight_later : (st : Standing) (seed : List ℕ) (c : ClientState) (call : Call) (up down : List Frame) → InFlight x h st seed c call up down →
      InFlight x h2 st seed c call up down
  flight_later st seed c call up down (inl p) = inl p
  flight_later st seed c call up down (inr p) = inr (p.0, (p.1.0, p.1.1, reply_later st seed (scheme_held c.hint) call p.1.0 p.1.2))

  phase_later : (st : Standing) (seed : List ℕ) (c : ClientState) (call : Call) (up down : List Frame) → IsDuringCall x h st seed c call up down →
      IsDuringCall x h2 st seed c call up down
  phase_later st seed c Idle up down p = p
  phase_later st seed c Hello up down p = flight_later st seed c Hello up down p
  phase_later st seed c (Sync scheme v p) up down q = flight_later st seed c (Sync scheme v p) up down q
  phase_later st seed c (Delta since) up down q = flight_later st seed c (Delta since) up down q
  phase_later st seed c (Changes since) up down q = flight_later st seed c (Changes since) up down q
  phase_later st seed c (Ask i v n) up down q = flight_later st seed c (Ask i v n) up down q
  phase_later st seed c Edit up down q = q
  phase_later st seed c Append up down q = q
  phase_later st seed c Publish up down q = q

  pub link_later : (seed : List ℕ) (l : ClientLink) → LinkInvariant x h seed l → LinkInvariant x h2 seed l
  link_later seed l i = record {
    seed_is = i.seed_is;
    profile_is = i.profile_is;
    alive = i.alive;
    unclosed = i.unclosed;
    known = known_later l.standing l.client.known i.known;
    hint = hint_later l.client.hint i.hint;
    call = call_later l.client l.client.call i.call;
    phase = phase_later l.standing seed l.client l.client.call l.up.frames l.down.frames i.phase;
  }

  end_later : (seed : List ℕ) (r : AcceptedAsk) (reply : Frame) (e : Event) → IsRightEnd x h seed r reply e → IsRightEnd x h2 seed r reply e
  end_later seed r reply e (inl a) =
      inl (record {
        records = a.records;
        version_is = later _ _ a.version_is;
        inside = a.inside;
        answer_is = a.answer_is;
        event_is = a.event_is;
        quiet =
            a.quiet;
        certain = a.certain;
      })
  end_later seed r reply e (inr (inl s)) =
      inr (inl (record {
        now = s.now;
        records = s.records;
        version_is = later _ _ s.version_is;
        later = s.later;
        reply_is = s.reply_is;
        event_is =
            s.event_is;
      }))
  end_later seed r reply e (inr (inr p)) = inr (inr p)

  event_later : (e : Event) → IsRightEvent h e → IsRightEvent h2 e
  event_later (Retrieved i v bytes) p = p
  event_later (Unreadable i v) p = p
  event_later (Stale v) p = version_later v p
  event_later (Synced scheme v) p = version_later v p
  event_later (Welcomed v) p = version_later v p
  event_later (Done v) p = p
  event_later (Refused code) p = tt

  entry_later : (seeds : List (List ℕ)) (e : LogEntry) → IsRight x seeds h e → IsRight x seeds h2 e
  entry_later seeds (Served k (Query scheme version words) now reply) p =
      let r = p.2 in
      (p.0, p.1, record { records = r.records; version_is = later _ _ r.version_is; stale = r.stale; answered = r.answered })
  entry_later seeds (Ended k r reply event) p = end_later (seed_of seeds k) r reply event p
  entry_later seeds (Plain (Reported k event)) p = event_later event p
  entry_later seeds (Plain (Published v)) p = version_later v p
  entry_later seeds (Plain (Failed k fault)) p = p
  entry_later seeds _ p = tt

  pub entries_later : (seeds : List (List ℕ)) (es : List LogEntry) → AllByRecursion (IsRight x seeds h) es → AllByRecursion (IsRight x seeds h2) es
  entries_later seeds [] p = tt
  entries_later seeds (e ∷ es) p = (entry_later seeds e p.0, entries_later seeds es p.1)

-- ---- an element replaced

pub get_same : {X : Type 0} (xs : List X) (k : ℕ) (x y : X) → slice_get xs k ≡ Some y → slice_get (slice_set xs k x) k ≡ Some x
get_same [] k x y e = absurd cc
get_same (z ∷ xs) zero x y e = refl
get_same (z ∷ xs) (suc k) x y e = get_same xs k x y e

pub get_other : {X : Type 0} (xs : List X) (k j : ℕ) (x : X) → (j ≡ k → ⊥) → slice_get (slice_set xs k x) j ≡ slice_get xs j
get_other [] k j x ne = refl
get_other (z ∷ xs) zero zero x ne = absurd (ne refl)
get_other (z ∷ xs) zero (suc j) x ne = refl
get_other (z ∷ xs) (suc k) zero x ne = refl
get_other (z ∷ xs) (suc k) (suc j) x ne = get_other xs k j x (λ e. ne (ap suc e))
