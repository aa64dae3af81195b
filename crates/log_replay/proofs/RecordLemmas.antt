-- Records after one change, and after others.
use Rattle.std.proofs.Common.{◌≡◌, ◌∙◌, ℕ, ◌+◌, ◌<◌, ◌≤◌, List, [], ◌∷◌, ◌++◌, length, slice_set, sym, ap, subst, arith, cond}
use Rattle.std.proofs.lemmas.Bool.{lt-ltb, le-ltb}
use Rattle.publication_log.specs.Publications.{Placed, Published}
use Rattle.snapshot_file.specs.declared.snapshot.Header.{Header}
use Rattle.version_store.specs.Openings.{IsSound, plan_held, records_for}
use Rattle.version_store.proofs.Versions.{long_held}
use Rattle.version_store.proofs.RecordsPut.{sound_version}
use Rattle.log_replay.specs.Replays.{record_changed, records_replayed}
use Rattle.log_replay.specs.Records.{AreRecordsChanged, AreRecordsReplayed, with_record_count, with_version}

-- a change below the count replaces a record
changed_below : (records after : List (List ℕ)) (n place : ℕ) (bytes : List ℕ) → length records ≡ n → place < n → after ≡ slice_set records place bytes →
    after ≡ record_changed records (record { place = place; bytes = bytes })
changed_below records after n place bytes long lt e =
    e ∙ ap (λ b. cond b (slice_set records place bytes) (records ++ bytes ∷ [])) (sym (lt-ltb place (length records) (omega (arith, long, lt))))

-- any other comes after them
changed_above : (records after : List (List ℕ)) (n place : ℕ) (bytes : List ℕ) → length records ≡ n → n ≤ place → after ≡ records ++ bytes ∷ [] →
    after ≡ record_changed records (record { place = place; bytes = bytes })
changed_above records after n place bytes long le e =
    e ∙ ap (λ b. cond b (slice_set records place bytes) (records ++ bytes ∷ [])) (sym (le-ltb place (length records) (omega (arith, long, le))))

pub changed_to : (h h' : Header) (bytes bytes' : List ℕ) (cs : List Placed) → h' ≡ with_record_count h h'.count →
    records_for h' bytes' ≡ records_replayed (records_for h bytes) cs → AreRecordsChanged h bytes cs h' bytes'
changed_to h h' bytes bytes' cs is held = record {
  header = is ∙ ap (with_record_count h) (sym (long_held (plan_held h') h'.count bytes') ∙ ap (λ (x : List (List ℕ)). length x) held);
  held = held;
}

pub still_counted : (h mid h' : Header) (n : ℕ) → mid ≡ with_record_count h mid.count → h' ≡ with_record_count mid n → h' ≡ with_record_count h h'.count
still_counted h mid h' n before is =
    is ∙ ap (λ (k : Header). with_record_count k n) before ∙ sym (ap (λ (k : Header). with_record_count h k.count) is)

pub replaced_one : (h h' : Header) (bytes bytes' : List ℕ) (place : ℕ) (new : List ℕ) → place < h.count → h' ≡ h →
    records_for h' bytes' ≡ slice_set (records_for h bytes) place new →
    AreRecordsChanged h bytes (record { place = place; bytes = new } ∷ []) h' bytes'
replaced_one h h' bytes bytes' place new lt is held =
    changed_to h h' bytes bytes' (record { place = place; bytes = new } ∷ []) (is ∙ sym (ap (λ (k : Header). with_record_count h k.count) is))
    (changed_below (records_for h bytes) (records_for h' bytes') h.count place new (long_held (plan_held h) h.count bytes) lt held)

pub appended_one : (h h' : Header) (bytes bytes' : List ℕ) (place : ℕ) (new : List ℕ) → h.count ≤ place → h' ≡ with_record_count h (h.count + 1) →
    records_for h' bytes' ≡ records_for h bytes ++ new ∷ [] →
    AreRecordsChanged h bytes (record { place = place; bytes = new } ∷ []) h' bytes'
appended_one h h' bytes bytes' place new le is held =
    changed_to h h' bytes bytes' (record { place = place; bytes = new } ∷ []) (is ∙ sym (ap (λ (k : Header). with_record_count h k.count) is))
    (changed_above (records_for h bytes) (records_for h' bytes') h.count place new (long_held (plan_held h) h.count bytes) le held)

-- ---- the same records, of another version

pub next_sound : (h h' : Header) (bytes bytes' : List ℕ) (version : ℕ) → IsSound h bytes → 1 ≤ version → h' ≡ with_version h version → bytes' ≡ bytes →
    IsSound h' bytes'
next_sound h h' bytes bytes' version sound some is same =
    subst (λ (b : List ℕ). IsSound h' b) (sym same) (subst (λ (k : Header). IsSound k bytes) (sym is) (sound_version h bytes version some sound))

pub next_replayed : (h mid h' : Header) (bytes between bytes' : List ℕ) (p : Published) (version : ℕ) → AreRecordsChanged h bytes p.changes mid between →
    version ≡ h.version + 1 → h' ≡ with_version mid version → bytes' ≡ between → AreRecordsReplayed h bytes p h' bytes'
next_replayed h mid h' bytes between bytes' p version changed next is same = record {
  header = is ∙ ap (λ (k : Header). with_version k version) changed.header
      ∙ ap (with_version (with_record_count h (length (records_replayed (records_for h bytes) p.changes)))) next;
  held = ap (λ (b : List ℕ). records_for h' b) same ∙ ap (λ (k : Header). records_for k between) is ∙ changed.held;
}
