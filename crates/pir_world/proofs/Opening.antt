-- A world as it begins, and so every run.
use Rattle.std.proofs.Common.{◌≡◌, ◌==◌, Bool, true, false, cond, ℕ, zero, suc, ◌-◌, ◌<◌, ◌^◌, All, List, [], ◌∷◌, length, map, Option, Some, refl, sym, ap, subst, ◌∙◌, arith}
use Rattle.std.specs.Prelude.{slice_get, ◌||◌, ◌&&◌}
use Rattle.std.proofs.lemmas.Bool.{and_from, and_parts, le-leb, leb-true, eq-eqb, eqb-true}
use Rattle.std.proofs.lemmas.List.{length-map}
use Rattle.matrix_u32.proofs.Products.{length-list_of}
use Rattle.digit_pack.specs.Layout.{records_in, is_wide}
use Rattle.digit_pack.proofs.Layouts.{layout_accepted, layout_means}
use Rattle.pir_schemes.specs.Plans.{content, records_held, client_profile}
use Rattle.pir_schemes.specs.Laws.{RetrievalGivesTheRecord}
use Rattle.frame_codec.specs.declared.frame.Frame.{Frame}
use Rattle.snapshot_file.specs.declared.snapshot.Header.{Header}
use Rattle.snapshot_file.specs.Snapshots.{shape_of}
use Rattle.version_store.specs.Histories.{current_version}
use Rattle.pir_world.specs.declared.steps.Step.{Step}
use Rattle.pir_world.specs.Runs.{State, ClientLink, opening, setting_in, fresh_link}
use Rattle.pir_world.specs.Versions.{seed_of}
use Rattle.pir_world.specs.Earlier.{HasEarlier}
use Rattle.pir_world.specs.Headlines.{IsOpening, is_sound, IsRunFrom, EveryRunIsRight}
use Rattle.pir_world.specs.Invariants.{AreRecordsOf, LinkInvariant, LogInvariant, WorldInvariant}
use Rattle.version_store.specs.Histories.{StoreState, StandsFor, opened}
use Rattle.version_store.specs.Openings.{held_of, plan_held}
use Rattle.version_store.proofs.Slotted.{held_is, held_slots}
use Rattle.server_core.specs.Cores.{Core, session_of}
use Rattle.server_core.specs.Serving.{setting_of}
use Rattle.server_core.specs.Sessions.{Session, new_session}
use Rattle.pir_world.specs.declared.steps.Outcome.{Outcome}
use Rattle.pir_world.specs.Runs.{silent}
use Rattle.pir_world.specs.Sides.{Side, Carries, EndIs, Matched, Implements, fresh_side}
use Rattle.pir_world.specs.Worlds.{WorldSeen, IsRunOf}
use Rattle.pir_world.proofs.Keeping.{run_inv}
use Rattle.pir_world.proofs.Later.{records_at}
use Rattle.pir_world.proofs.Logs.{all_with_earlier}

only_one : {X : Type 0} (r s : X) (i : ℕ) → slice_get (r ∷ []) i ≡ Some s → r ≡ s
only_one r s zero e = cc
only_one r s (suc i) e = absurd cc

link_of : (wide : Bool) (seeds : List (List ℕ)) (k : ℕ) (l : ClientLink) → slice_get (map (fresh_link wide) seeds) k ≡ Some l → fresh_link wide (seed_of seeds k) ≡ l
link_of wide [] k l e = absurd cc
link_of wide (s ∷ seeds) zero l e = cc
link_of wide (s ∷ seeds) (suc k) l e = link_of wide seeds k l e

-- the records that a snapshot's bytes hold
abbrev held : (h : Header) (bytes : List ℕ) → List (List ℕ)
held h bytes = records_held (plan_held h) h.count bytes

opening_records : (h : Header) (bytes : List ℕ) → IsOpening h bytes → AreRecordsOf (plan_held h) (held h bytes)
opening_records h bytes o =
    let n : length (held h bytes) ≡ h.count = length-map (records_in (shape_of h) bytes) (content (plan_held h)) ∙ length-list_of h.count _ in
    record {
      plan = rw n (record { form = o.sound.sizes.form; layout = o.sound.sizes.layout; low = o.sound.sizes.low; high = o.sound.sizes.high });
      each = λ i lt. held_is (plan_held h) (shape_of h) bytes refl o.sound.len o.bytes (held_slots h bytes o.sound.slots) i (omega (arith, lt, n));
    }

-- a snapshot that a store accepts passes each of its checks
pub opening_accepted : (h : Header) (bytes : List ℕ) → IsOpening h bytes → is_sound h bytes ≡ true
opening_accepted h bytes o =
    let s = o.sound in
    and_from _ _ s.sizes.form (and_from _ _ (layout_accepted (shape_of h) s.sizes.layout)
    (and_from _ _ (and_from _ _ (le-leb _ _ s.sizes.low) (le-leb _ _ s.sizes.high))
    (and_from _ _ (le-leb _ _ s.version) (and_from _ _ (eq-eqb _ _ s.len) s.slots))))

-- a snapshot that passes each of its checks is one that a store accepts
pub accepted_opens : (h : Header) (bytes : List ℕ) → is_sound h bytes ≡ true → All (λ b. b < 2 ^ 8) bytes → IsOpening h bytes
accepted_opens h bytes e all =
    let form = and_parts _ _ e in
    let layout = and_parts _ _ form.1 in
    let dimension = and_parts _ _ layout.1 in
    let bounds = and_parts _ _ dimension.0 in
    let version = and_parts _ _ dimension.1 in
    let rest = and_parts _ _ version.1 in
    record {
      sound = record {
        sizes = record { form = form.0; layout = layout_means (shape_of h) layout.0; low = leb-true _ _ bounds.0; high = leb-true _ _ bounds.1 };
        version = leb-true _ _ version.0;
        len = eqb-true _ _ rest.0;
        slots = rest.1;
      };
      bytes = all;
    }

-- the opening of a run
pub run_opens : (h : Header) (bytes : List ℕ) (seeds : List (List ℕ)) (steps : List Step) (s : State) → IsRunFrom h bytes seeds steps s → IsOpening h bytes
run_opens h bytes seeds steps s r = accepted_opens h bytes r.accepted r.bytes

-- the profile asked for is one that the server accepts
asked_accepted : (wide one plain : Bool) → cond wide ((client_profile wide == 130) || ((client_profile wide == 129) && plain))
    ((client_profile wide == 2) || ((client_profile wide == 1) && one)) ≡ true
asked_accepted true one plain = refl
asked_accepted false one plain = refl

pub opening_inv : (h : Header) (bytes : List ℕ) (seeds : List (List ℕ)) → IsOpening h bytes → WorldInvariant (setting_in h) seeds (opening h bytes seeds)
opening_inv h bytes seeds o =
    let all = opening_records h bytes o in
    record {
      history = record {
        first = o.sound.version;
        versions = λ v records p. subst (λ (r : List (List ℕ)). AreRecordsOf (setting_in h).plan r)
            (only_one (held h bytes) records (current_version (opening h bytes seeds).history - v)
            (sym (records_at (opening h bytes seeds).history v p.0) ∙ p.1)) all;
        draft = all;
        growing = (omega arith, tt);
      };
      links = λ k l e. subst (λ (m : ClientLink). LinkInvariant (setting_in h) (opening h bytes seeds).history (seed_of seeds k) m) (link_of (is_wide h.form) seeds k l e)
          (record { seed_is = refl; profile_is = asked_accepted (is_wide h.form) (h.form == 1) (h.form == 129); alive = refl; unclosed = refl; known = tt; hint = tt; call = tt; phase = (refl, refl) });
      logs = λ k l e. subst (λ (m : ClientLink). LogInvariant (setting_in h) (opening h bytes seeds).history (seed_of seeds k) k m []) (link_of (is_wide h.form) seeds k l e)
          (record {
            number = refl;
            hint = refl;
            sent = λ f z. absurd (let y : ◌≡◌ {A = List Frame} [] (f ∷ []) = z in cc);
            served =
                λ r z. absurd (let y : ◌≡◌ {A = List Frame} [] (r ∷ []) = z in cc);
          });
      entries = tt;
      earlier = tt;
    }

pub headline : RetrievalGivesTheRecord → EveryRunIsRight
headline law h bytes seeds steps last o r =
    let inv = run_inv law (setting_in h) seeds (opening h bytes seeds) steps last r (opening_inv h bytes seeds o) in
    record {
      entries = inv.entries;
      earlier = all_with_earlier (HasEarlier (setting_in h) seeds last.history) last.log inv.earlier;
      hints = λ k l e. (inv.links k l e).hint;
      named = λ k l e. (inv.logs k l e).hint;
    }

-- ---- its parts

fresh_wire : (wide : Bool) → Carries wide (Some []) [] silent
fresh_wire wide = record { unfinished = []; reader_is = refl; bytes = refl; got = refl; each = tt }

fresh_end : (wide : Bool) (seed : List ℕ) → EndIs wide (fresh_side wide seed) new_session (fresh_link wide seed)
fresh_end wide seed = record { client_is = refl; standing_is = refl; up = fresh_wire wide; down = fresh_wire wide }

fresh_matched : (wide : Bool) (seeds : List (List ℕ)) (k : ℕ) (o : Option Session) → (k < length seeds → o ≡ Some new_session) →
    Matched wide (slice_get (map (fresh_side wide) seeds) k) o (slice_get (map (fresh_link wide) seeds) k)
fresh_matched wide [] k o e = tt
fresh_matched wide (s ∷ seeds) zero o e = rw (e (omega arith)) (fresh_end wide s)
fresh_matched wide (s ∷ seeds) (suc k) o e = fresh_matched wide seeds k o (λ lt. e (omega (arith, lt)))

pub opening_parts : (h : Header) (bytes : List ℕ) (seeds : List (List ℕ)) (core : Core) (ends : List Side) (os : List Outcome) → core.store ≡ held_of h bytes →
    StandsFor core.store (opened h.version (held h bytes)) → ends ≡ map (fresh_side (is_wide h.form)) seeds
    → ((id : ℕ) → id < length seeds → session_of core.sessions id ≡ Some new_session) → os ≡ [] → Implements (setting_in h) core ends os (opening h bytes seeds)
opening_parts h bytes seeds core ends os held stands e at none = record {
  setting_is = ap (λ (s : StoreState). setting_of s) held;
  store_is = stands;
  ends_are = λ k. rw e (fresh_matched (is_wide h.form) seeds k (session_of core.sessions k) (at k));
  outcomes_are = none;
}

pub opening_run : (h : Header) (bytes : List ℕ) (seeds : List (List ℕ)) (w : WorldSeen) → IsOpening h bytes → w.header ≡ h → w.records ≡ bytes → w.seeds ≡ seeds →
    w.steps ≡ [] → Implements (setting_in h) w.core w.ends w.outcomes (opening h bytes seeds)
    → IsRunOf w (opening h bytes seeds)
opening_run h bytes seeds w o a b d e parts = record {
  run = rw (a, b, d, e) (record { accepted = opening_accepted h bytes o; bytes = o.bytes; run = refl });
  outcomes_are = parts.outcomes_are;
  parts = λ alive. rw a parts;
}
