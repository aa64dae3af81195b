-- Hints that are moved by what differs between versions.
use Rattle.std.proofs.Common.{◌≡◌, ◌∙◌, ℕ, zero, suc, ◌-◌, ◌≤◌, All, Bool, true, false, cond, Some, None, List, [], ◌∷◌, length, replicate, sym, ap, subst, arith}
use Rattle.std.specs.Prelude.{nat_le, slice_get, unwrap_or}
use Rattle.std.proofs.lemmas.List.{length-map, length-replicate}
use Rattle.std.proofs.lemmas.List.Elements.{All-append, All-map, All-replicate}
use Rattle.matrix_u32.specs.Matrix.{WordMatrix, product}
use Rattle.digit_pack.specs.Layout.{Shape, digit_matrix}
use Rattle.digit_pack.proofs.RecordLemmas.{shape_of_layout}
use Rattle.hint_changes.specs.Changes.{changes_between, moved}
use Rattle.hint_changes.specs.Entries.{changes_in}
use Rattle.pir_schemes.specs.declared.scheme.Scheme.TheVariants.{Simple}
use Rattle.pir_schemes.specs.declared.plan.Plan.{Plan}
use Rattle.pir_schemes.specs.Plans.{IsPlan, IsRecordOf, first_public, shape_at, slot, slots}
use Rattle.pir_schemes.specs.Retrievals.{hint_matrix}
use Rattle.pir_schemes.proofs.Quiet.{slot_is_record}
use Rattle.record_log.specs.OldRecords.{entries_bytes}
use Rattle.record_log.proofs.EntriesMove.{entries_move}
use Rattle.version_store.specs.Editions.{grown}
use Rattle.version_store.specs.Histories.{AreGrowing, changes_since, current_version, entries_between, reaches_olds}
use Rattle.version_store.specs.Laws.{ChangesSinceMoveTheHint}
use Rattle.version_store.specs.OldRecords.{kept_olds, slots_with_blanks}
use Rattle.version_store.proofs.ChangesSince.{at_most, few_records}
use Rattle.version_store.proofs.Grown.{hint_is, hint-grown, length-grown, slots-grown}

-- an earlier version has no more records
pub no_more : (current : List (List ℕ)) (past : List (List (List ℕ))) (k : ℕ) (records : List (List ℕ)) → AreGrowing current past →
    slice_get (current ∷ past) k ≡ Some records → length records ≤ length current
no_more current past zero records growing at = let same : current ≡ records = cc in omega (arith, ap length same)
no_more current [] (suc k) records growing at = let no : None ≡ Some records = at in absurd cc
no_more current (before ∷ past) (suc k) records growing at = omega (arith, growing.0, no_more before past k records growing.1 at)

-- records have slots of one length in the digits
pub slots_long : (p : Plan) (n : ℕ) (records : List (List ℕ)) → IsPlan p n → All (IsRecordOf p) records →
    All (λ (bytes : List ℕ). length bytes ≡ p.record_len) (slots p records)
slots_long p n records ok good =
    All-map (λ (bytes : List ℕ). length bytes ≡ p.record_len) (slot p) records (λ k d lt. (slot_is_record p n _ ok (good k d lt)).len)

-- and so have blanks after them
pub blanks_long : (p : Plan) (n m : ℕ) (records : List (List ℕ)) → IsPlan p n → All (IsRecordOf p) records →
    All (λ (bytes : List ℕ). length bytes ≡ p.record_len) (slots_with_blanks p m records)
blanks_long p n m records ok good =
    let Long : List ℕ → Type 0 = λ bytes. length bytes ≡ p.record_len in
    let zeros : List ℕ = replicate p.record_len 0 in
    subst (All Long) (sym (slots-grown p m records ok.form))
    (All-append Long (slots p records) (replicate (m - length records) zeros) (slots_long p n records ok good)
    (All-replicate Long (m - length records) zeros (length-replicate {A = ℕ} p.record_len 0)))

-- the hint of records with blanks after them
hint_blanks : (p : Plan) (n : ℕ) (records : List (List ℕ)) → IsPlan p n → length records ≤ n →
    product (digit_matrix (shape_at p n) (slots_with_blanks p n records)) (first_public (shape_at p n) p.dimension p.seed) ≡ hint_matrix Simple p records
hint_blanks p n records ok le =
    ap (λ k. product (digit_matrix (shape_at p k) (slots_with_blanks p n records)) (first_public (shape_at p k) p.dimension p.seed))
    (sym (length-grown p n records le))
    ∙ sym (hint_is p (grown p n records))
    ∙ hint-grown p n records ok.form ok.layout.groups.0 le

-- what is returned
pub given : (reaches : Bool) (most : ℕ) (bytes entries : List ℕ) → cond reaches (at_most most bytes) None ≡ Some entries → entries ≡ bytes
given true most bytes entries e = by (nat_le (length bytes) most) e
  where
    by : (b : Bool) → cond b (Some bytes) None ≡ Some entries → entries ≡ bytes
    by true e = cc
    by false e = let no : None ≡ Some entries = e in absurd cc
given false most bytes entries e = let no : None ≡ Some entries = e in absurd cc

there : (newer : Bool) (all : List (List (List ℕ))) (k : ℕ) (records : List (List ℕ)) → cond newer None (slice_get all k) ≡ Some records →
    slice_get all k ≡ Some records
there true all k records e = let no : None ≡ Some records = e in absurd cc
there false all k records e = e

-- as many, with blanks after them, as the records of a later version
pub as_many : (p : Plan) (before after : List (List ℕ)) → length before ≤ length after →
    length (slots_with_blanks p (length after) before) ≡ length (slots p after)
as_many p before after le =
    length-map (grown p (length after) before) (slot p) ∙ length-grown p (length after) before le ∙ sym (length-map after (slot p))

-- what differs between records and others that are as many or more moves the hint of the ones to
-- that of the others
pub between_moves : (p : Plan) (before after : List (List ℕ)) → IsPlan p (length after) → All (IsRecordOf p) after → All (IsRecordOf p) before →
    length before ≤ length after →
    let l = shape_at p (length after) in
    moved l (first_public l p.dimension p.seed)
    (changes_in p.record_len (entries_bytes (changes_between (slots_with_blanks p (length after) before) (slots p after)))) (hint_matrix Simple p before)
    ≡ hint_matrix Simple p after
between_moves p before after ok good old le =
    let n : ℕ = length after in
    let l : Shape = shape_at p n in
    let a1 : WordMatrix = first_public l p.dimension p.seed in
    let was : List (List ℕ) = slots_with_blanks p n before in
    let is : List (List ℕ) = slots p after in
    ap (λ (hint : WordMatrix). moved l a1 (changes_in p.record_len (entries_bytes (changes_between was is))) hint) (sym (hint_blanks p n before ok le))
    ∙ entries_move l was is a1 (shape_of_layout l ok.layout) (omega arith) (few_records l ok.layout) (as_many p before after le)
    (omega (arith, length-map after (slot p))) (blanks_long p n n before ok old) (slots_long p n after ok good)
    ∙ sym (hint_is p after)

pub changes_move : ChangesSinceMoveTheHint
unfolding changes_since
changes_move p h since most entries records ok growing good old answered version =
    let n : ℕ = length h.current in
    let l : Shape = shape_at p n in
    let a1 : WordMatrix = first_public l p.dimension p.seed in
    let le : length records ≤ n =
    no_more h.current h.past (current_version h - since) records growing (there _ (h.current ∷ h.past) (current_version h - since) records version) in
    let are : entries ≡ entries_bytes (changes_between (slots_with_blanks p n records) (slots p h.current)) =
    given (reaches_olds (current_version h) (length (kept_olds p h.current h.past)) since) most (entries_between p h since) entries answered
    ∙ ap (λ o. entries_bytes (changes_between (slots_with_blanks p n (unwrap_or o [])) (slots p h.current))) version in
    ap (λ (bytes : List ℕ). moved l a1 (changes_in p.record_len bytes) (hint_matrix Simple p records)) are ∙ between_moves p records h.current ok good old le
