-- The bytes that records have in the digits before and after changes.
use Rattle.std.proofs.Common.{◌≡◌, ◌∙◌, ℕ, zero, suc, ◌+◌, ◌*◌, ◌<◌, ◌≤◌, All, Bool, true, false, List, [], ◌++◌, length, take, drop, map, replicate, refl, sym, ap, subst, arith}
use Rattle.std.specs.Prelude.{Option, Some, None, nat_eq, IsSomeAnd, MatchOption}
use Rattle.std.specs.Cmp.Lexicographic.{pointwise}
use Rattle.std.specs.List.{range_with_len}
use Rattle.std.specs.declared.vec.Vec.{Vec}
use Rattle.std.specs.declared.alloc.Global.{Global}
use Rattle.std.proofs.lemmas.Bool.{cond-true, cond-false}
use Rattle.std.proofs.lemmas.List.{get_or-map, length-map, map-append}
use Rattle.std.proofs.lemmas.List.Elements.{All-append, All-cons, All-nil, All-weaker}
use Rattle.matrix_u32.proofs.Products.{at-list_of_any}
use Rattle.digit_pack.specs.Layout.{is_wide, record_at, records_in}
use Rattle.digit_pack.specs.Slots.{is_form}
use Rattle.hint_changes.specs.Changes.{changes_at, unless_same}
use Rattle.pir_schemes.specs.declared.plan.Plan.{Plan}
use Rattle.pir_schemes.specs.Plans.{fits, slot, slots}
use Rattle.record_log.specs.OldRecords.{OldBytes, OldRecord}
use Rattle.record_log.specs.Steps.{change_or_none}
use Rattle.record_log.proofs.Between.{none_up_to, one_more}
use Rattle.version_store.specs.Drafts.{Changes, FitRecords, bytes_or, change_at, draft_of, grown_to}
use Rattle.version_store.specs.Editions.{Records, grown, version_shape}
use Rattle.version_store.specs.Openings.{bytes_of_records}
use Rattle.version_store.specs.OldRecords.{AddsOld, draft_olds, old_of, olds_between, olds_replaced, slots_with_blanks}
use Rattle.version_store.proofs.DraftPlaces.{draft-at}
use Rattle.version_store.proofs.Grown.{blank-slot, grown-new, grown-old, length-draft, length-grown}

-- ---- the bytes of one record

slot_in : (p : Plan) (records : List (List ℕ)) (i : ℕ) → i < length records → record_at (slots p records) i ≡ slot p (record_at records i)
slot_in p records i lt = get_or-map (slot p) records i [] [] lt

pub slot_there : (e : Records) (n i : ℕ) → length e.records ≤ n → i < length e.records →
    records_in (version_shape e) (bytes_of_records (slots e.plan e.records)) ≡ slots e.plan e.records →
    take e.plan.record_len (drop (i * e.plan.record_len) (bytes_of_records (slots e.plan e.records))) ≡ record_at (slots_with_blanks e.plan n e.records) i
slot_there e n i more lt read =
    let bytes : List ℕ = bytes_of_records (slots e.plan e.records) in
    sym (at-list_of_any (length e.records) (λ k. take e.plan.record_len (drop (k * e.plan.record_len) bytes)) i [] lt)
    ∙ ap (λ (xs : List (List ℕ)). record_at xs i) read
    ∙ slot_in e.plan e.records i lt
    ∙ ap (slot e.plan) (sym (grown-old e.plan n e.records i lt))
    ∙ sym (slot_in e.plan (grown e.plan n e.records) i (omega (arith, lt, more, length-grown e.plan n e.records more)))

pub slot_blank : (p : Plan) (n i : ℕ) (records : List (List ℕ)) → is_form p.form p.record_len ≡ true → length records ≤ i → i < n →
    replicate p.record_len 0 ≡ record_at (slots_with_blanks p n records) i
slot_blank p n i records form low high =
    sym (slot_in p (grown p n records) i (omega (arith, high, length-grown p n records (omega (arith, low, high))))
    ∙ ap (slot p) (grown-new p n records i low high)
    ∙ blank-slot p form)

-- ---- the old bytes of the first records that differ

-- those of the first n records
abbrev pub olds_below : List (List ℕ) → List (List ℕ) → ℕ → List OldRecord
olds_below before after n = map old_of (changes_at before after (range_with_len 0 n))

-- one more record
pub below_more : (before after : List (List ℕ)) (n : ℕ) →
    olds_below before after (n + 1) ≡ olds_below before after n ++ map old_of (change_or_none n (record_at before n) (record_at after n))
below_more before after n =
    ap (map old_of) (one_more before after n)
    ∙ map-append old_of (changes_at before after (range_with_len 0 n)) (change_or_none n (record_at before n) (record_at after n))

one_inside : (n : ℕ) (old new : List ℕ) (b : Bool) →
    All (λ (o : OldRecord). o.index < n + 1) (map old_of (unless_same b (record { index = n; old = old; new = new }) []))
one_inside n old new true = All-nil (λ (o : OldRecord). o.index < n + 1)
one_inside n old new false =
    All-cons (λ (o : OldRecord). o.index < n + 1) (record { index = n; bytes = old }) [] (omega arith) (All-nil (λ (o : OldRecord). o.index < n + 1))

pub all_below : (before after : List (List ℕ)) (n : ℕ) → All (λ (o : OldRecord). o.index < n) (olds_below before after n)
all_below before after zero = All-nil (λ (o : OldRecord). o.index < 0)
all_below before after (suc n) =
    let up : n + 1 ≡ suc n = omega arith in
    let Below : OldRecord → Type 0 = λ o. o.index < n + 1 in
    let one : List OldRecord = map old_of (change_or_none n (record_at before n) (record_at after n)) in
    subst (λ m. All (λ (o : OldRecord). o.index < m) (olds_below before after m)) up
    (subst (All Below) (sym (below_more before after n))
    (All-append Below (olds_below before after n) one
    (All-weaker (λ (o : OldRecord). o.index < n) Below (λ o lt. omega (arith, lt)) (olds_below before after n) (all_below before after n))
    (one_inside n (record_at before n) (record_at after n) (pointwise nat_eq (record_at before n) (record_at after n)))))

-- ---- what the changes of a draft replace

-- the bytes that records have in the digits, before their draft is published and after that
abbrev pub before_draft : Records → ℕ → List (List ℕ)
before_draft e n = slots_with_blanks e.plan n e.records

abbrev pub after_draft : Records → ℕ → Changes → List (List ℕ)
after_draft e n changes = slots e.plan (draft_of (grown_to n e).records changes)

-- the old bytes of those of the first k records that differ
abbrev pub olds_up_to : Records → ℕ → Changes → ℕ → OldBytes
olds_up_to e n changes k = record { record_len = e.plan.record_len; records = olds_below (before_draft e n) (after_draft e n changes) k }

module _ (e : Records) (n : ℕ) (changes : Changes) (more : length e.records ≤ n) where
  long : length (after_draft e n changes) ≡ n
  long = length-map (draft_of (grown_to n e).records changes) (slot e.plan) ∙ length-draft e n changes more

  after_at : (k : ℕ) → k < n → record_at (after_draft e n changes) k ≡ slot e.plan (bytes_or (change_at changes k) (record_at (grown_to n e).records k))
  after_at k lt =
      slot_in e.plan (draft_of (grown_to n e).records changes) k (omega (arith, lt, length-draft e n changes more))
      ∙ ap (slot e.plan) (draft-at e n changes k more lt)

  new_at : (k : ℕ) (v : Vec ℕ Global) → k < n → change_at changes k ≡ Some v → record_at (after_draft e n changes) k ≡ slot e.plan v.items
  new_at k v lt is = after_at k lt ∙ ap (λ o. slot e.plan (bytes_or o (record_at (grown_to n e).records k))) is

  same_at : (k : ℕ) → k < n → change_at changes k ≡ None → record_at (before_draft e n) k ≡ record_at (after_draft e n changes) k
  same_at k lt none =
      slot_in e.plan (grown e.plan n e.records) k (omega (arith, lt, length-grown e.plan n e.records more))
      ∙ sym (after_at k lt ∙ ap (λ o. slot e.plan (bytes_or o (record_at (grown_to n e).records k))) none)

  -- no change is left
  pub all_olds : (from : ℕ) → from ≤ n → ((k : ℕ) → from ≤ k → change_at changes k ≡ None) →
      olds_below (before_draft e n) (after_draft e n changes) from ≡ olds_between (before_draft e n) (after_draft e n changes)
  all_olds from inside none =
      sym (ap (map old_of) (none_up_to (before_draft e n) (after_draft e n changes) from (length (after_draft e n changes)) (omega (arith, inside, long))
      (λ k low high. same_at k (omega (arith, high, long)) (none k low))))

  -- the place of the next change is that of a record, which gets bytes that can be one
  pub next_fits : (i : ℕ) (bytes : List ℕ) → FitRecords (grown_to n e) changes → IsSomeAnd (change_at changes i) (λ v. bytes ≡ v.items) →
      (i < n) × (fits e.plan bytes ≡ true)
  next_fits i bytes fit some = by (change_at changes i) (fit i) some
    where
      by : (o : Option (Vec ℕ Global)) →
          MatchOption o (Unit {0}) (λ v. (i < length (grown e.plan n e.records)) × (fits e.plan v.items ≡ true)) →
          IsSomeAnd o (λ v. bytes ≡ v.items) → (i < n) × (fits e.plan bytes ≡ true)
      by None fit some = absurd some
      by (Some v) fit some = (omega (arith, fit.0, length-grown e.plan n e.records more), ap (fits e.plan) some ∙ fit.1)

  -- with the next change
  pub next_olds : (from i : ℕ) (bytes : List ℕ) (old new : OldBytes) → old ≡ olds_up_to e n changes from → from ≤ i → i < n →
      IsSomeAnd (change_at changes i) (λ v. bytes ≡ v.items) → ((k : ℕ) → from ≤ k → k < i → change_at changes k ≡ None) →
      AddsOld i (record_at (before_draft e n) i) (slot e.plan bytes) old new → new ≡ olds_up_to e n changes (i + 1)
  next_olds from i bytes old new is low inside some between added =
      let made : List OldRecord → OldBytes = λ records. record { record_len = e.plan.record_len; records = records } in
      let one : List ℕ → List OldRecord = λ b. map old_of (change_or_none i (record_at (before_draft e n) i) b) in
      let at : record_at (after_draft e n changes) i ≡ slot e.plan bytes = by (change_at changes i) refl some in
      let same : olds_below (before_draft e n) (after_draft e n changes) i ≡ olds_below (before_draft e n) (after_draft e n changes) from =
      ap (map old_of) (none_up_to (before_draft e n) (after_draft e n changes) from i low (λ k p q. same_at k (omega (arith, q, inside)) (between k p q))) in
      added
      ∙ ap (λ (o : OldBytes). record o { records = o.records ++ one (slot e.plan bytes) }) is
      ∙ ap (λ (b : List ℕ). made (olds_below (before_draft e n) (after_draft e n changes) from ++ one b)) (sym at)
      ∙ ap (λ (xs : List OldRecord). made (xs ++ one (record_at (after_draft e n changes) i))) (sym same)
      ∙ ap made (sym (below_more (before_draft e n) (after_draft e n changes) i))
    where
      by : (o : Option (Vec ℕ Global)) → change_at changes i ≡ o → IsSomeAnd o (λ v. bytes ≡ v.items) → record_at (after_draft e n changes) i ≡ slot e.plan bytes
      by None is some = absurd some
      by (Some v) is some = new_at i v inside is ∙ ap (slot e.plan) (sym some)

-- ---- what a draft changes

module _ (e : Records) (n : ℕ) (changes : Changes) (more : length e.records ≤ n) where
  pub draft_some : (olds : OldBytes) → is_wide e.plan.form ≡ true →
      olds ≡ record { record_len = e.plan.record_len; records = olds_between (before_draft e n) (after_draft e n changes) } →
      Some olds ≡ draft_olds e (draft_of (grown_to n e).records changes)
  unfolding olds_replaced
  draft_some olds wide is =
      let draft : List (List ℕ) = draft_of (grown_to n e).records changes in
      let made : ℕ → OldBytes = λ k. record { record_len = e.plan.record_len; records = olds_between (slots_with_blanks e.plan k e.records) (slots e.plan draft) } in
      ap Some (is ∙ ap made (sym (length-draft e n changes more))) ∙ sym (cond-true (is_wide e.plan.form) (Some (made (length draft))) None wide)

pub draft_none : (e : Records) (draft : List (List ℕ)) → is_wide e.plan.form ≡ false → None ≡ draft_olds e draft
draft_none e draft ordinary =
    sym (cond-false (is_wide e.plan.form) (Some (record { record_len = e.plan.record_len; records = olds_replaced e.plan e.records draft })) None ordinary)
