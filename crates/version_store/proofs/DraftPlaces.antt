-- The places that a draft changes.
use Rattle.std.proofs.Common.{◌≡◌, ◌≢◌, ℕ, ◌+◌, ◌<◌, ◌≤◌, arith, ap, ◌∙◌, sym, refl, subst, inl, inr, List, [], ◌∷◌, length, true, false, cond}
use Rattle.std.proofs.lemmas.Bool.{cases_eq, cases_lt}
use Rattle.std.specs.Prelude.{Option, Some, None, MatchOption, IsSomeAnd}
use Rattle.std.specs.declared.vec.Vec.{Vec}
use Rattle.std.specs.declared.alloc.Global.{Global}
use Rattle.std.specs.BTreeMap.{BTreeMap, Updates}
use Rattle.std.specs.Ordering.{nat_cmp}
use Rattle.matrix_u32.proofs.Products.{at-list_of_any}
use Rattle.digit_pack.specs.Layout.{IsLayout, is_layout, record_at}
use Rattle.digit_pack.proofs.Layouts.{layout_accepted}
use Rattle.pir_schemes.specs.declared.plan.Plan.{Plan}
use Rattle.pir_schemes.specs.Plans.{fits, shape_at}
use Rattle.record_log.specs.OldRecords.{OldRecord}
use Rattle.version_store.specs.Drafts.{Changes, change_at, bytes_or, draft_of, is_some_change, grown_to, HasAppended, IsHeld}
use Rattle.version_store.specs.Editions.{Records}
use Rattle.version_store.specs.Histories.{StoreState}
use Rattle.version_store.specs.DraftChanges.{IsUnchangedAt, IsNextChange, HasNoChange}
use Rattle.version_store.proofs.DraftLemmas.{same_key, some_of_change, updated_here, updated_elsewhere}
use Rattle.version_store.proofs.Grown.{length-grown, length-draft, grown-old, more_columns}

-- ---- each appended record has a change

no_some : (o : Option (Vec ℕ Global)) (v : Vec ℕ Global) → o ≡ Some v → o ≡ None → ⊥
no_some o v is none = let no : Some v ≡ None = sym is ∙ none in absurd cc

pub appended-updated : (e : Records) (n n' : ℕ) (old new : BTreeMap ℕ (Vec ℕ Global)) (k : ℕ) (v : Vec ℕ Global) → Updates nat_cmp old new k (Some v) →
    ((i : ℕ) → i < n' → i ≢ k → i < n) → HasAppended e n old.entries → HasAppended e n' new.entries
appended-updated e n n' old new k v u within before i low high none = elim (cases_eq i k) [
  | inl same ↦ no_some (change_at new.entries i) v (ap (change_at new.entries) same ∙ updated_here old new k (Some v) u) none
  | inr apart ↦ before i low (within i high apart) (sym (updated_elsewhere old new k i (Some v) u apart) ∙ none)
]

pub appended-none : (e : Records) (n : ℕ) (changes : Changes) → n ≤ length e.records → HasAppended e n changes
appended-none e n changes few i low high none = let no : ⊥ = omega (arith, few, low, high) in no

-- ---- fewer records are within the limits

pub fewer_records : (p : Plan) (n k : ℕ) → IsLayout (shape_at p n) → k < n → is_layout (shape_at p (k + 1)) ≡ true
fewer_records p n k h lt =
    let cols = more_columns p (k + 1) n h.groups.0 (omega (arith, lt)) in
    layout_accepted (shape_at p (k + 1)) (record {
      side = h.side;
      width = h.width;
      noise = h.noise;
      record_len = h.record_len;
      groups = h.groups;
      count = (omega arith, omega (arith, cols, h.count.1));
    })

-- ---- what is seen of a draft

-- what a store with these parts is seen as
abbrev pub state_of : ℕ → Records → ℕ → Changes → List ℕ → List (List ℕ) → List (List OldRecord) → StoreState
state_of version e n changes publisher log olds = record {
  version = version;
  edition = e;
  draft = draft_of (grown_to n e).records changes;
  marked = is_some_change changes;
  publisher = publisher;
  log = log;
  olds = olds;
}

pub draft-at : (e : Records) (n : ℕ) (changes : Changes) (k : ℕ) → length e.records ≤ n → k < n →
    record_at (draft_of (grown_to n e).records changes) k ≡ bytes_or (change_at changes k) (record_at (grown_to n e).records k)
draft-at e n changes k le lt =
    let rs : List (List ℕ) = (grown_to n e).records in
    at-list_of_any (length rs) (λ i. bytes_or (change_at changes i) (record_at rs i)) k [] (omega (arith, lt, length-grown e.plan n e.records le))

module _ (version : ℕ) (e : Records) (n : ℕ) (changes : Changes) (publisher : List ℕ) (log : List (List ℕ)) (olds : List (List OldRecord))
    (held : IsHeld e n changes log) where
  unchanged_at : (k : ℕ) → k < n → change_at changes k ≡ None → IsUnchangedAt (state_of version e n changes publisher log olds) k
  unchanged_at k lt none = elim (cases_lt k (length e.records)) [
    | inl old ↦ (
      old,
      draft-at e n changes k held.more lt
          ∙ ap (λ o. bytes_or o (record_at (grown_to n e).records k)) none
          ∙ grown-old e.plan n e.records k old,
    )
    | inr new ↦ absurd (held.appended k new lt none)
  ]

  change_is : (o : Option (Vec ℕ Global)) (low i : ℕ) (bytes : List ℕ) → change_at changes i ≡ o → low ≤ i → IsSomeAnd o (λ v. bytes ≡ v.items) →
      ((k : ℕ) → low ≤ k → k < i → change_at changes k ≡ None) → IsNextChange (state_of version e n changes publisher log olds) low i bytes
  change_is None low i bytes is at some between = absurd some
  change_is (Some v) low i bytes is at some between =
      let fit : (i < length (grown_to n e).records) × (fits e.plan v.items ≡ true) =
      subst (λ o. MatchOption o (Unit {0}) (λ v. (i < length (grown_to n e).records) × (fits e.plan v.items ≡ true))) is (held.fit i) in
      let inside : i < n = omega (arith, fit.0, length-grown e.plan n e.records held.more) in
      record {
        at = at;
        inside = omega (arith, inside, length-draft e n changes held.more);
        bytes_are = some ∙ sym (draft-at e n changes i held.more inside ∙ ap (λ o. bytes_or o (record_at (grown_to n e).records i)) is);
        fit = ap (fits e.plan) some ∙ fit.1;
        layout = fewer_records e.plan n i held.layout inside;
        between = λ k le lt. unchanged_at k (omega (arith, lt, inside)) (between k le lt);
      }

  pub next_is : (low i : ℕ) (bytes : List ℕ) → low ≤ i → IsSomeAnd (change_at changes i) (λ v. bytes ≡ v.items) →
      ((k : ℕ) → low ≤ k → k < i → change_at changes k ≡ None) → IsNextChange (state_of version e n changes publisher log olds) low i bytes
  next_is low i bytes at some between = change_is (change_at changes i) low i bytes refl at some between

  pub none_is : (low : ℕ) → ((k : ℕ) → low ≤ k → change_at changes k ≡ None) → HasNoChange (state_of version e n changes publisher log olds) low
  none_is low none = record {
    count = omega (arith, held.more, length-draft e n changes held.more);
    after = λ k le lt. unchanged_at k (omega (arith, lt, length-draft e n changes held.more)) (none k le);
  }

-- ---- whether there is a change

pub marked_by_change : (changes : Changes) (i : ℕ) (bytes : List ℕ) → IsSomeAnd (change_at changes i) (λ v. bytes ≡ v.items) → is_some_change changes ≡ true
marked_by_change changes i bytes some = by_option (change_at changes i) refl some
  where
    by_option : (o : Option (Vec ℕ Global)) → change_at changes i ≡ o → IsSomeAnd o (λ v. bytes ≡ v.items) → is_some_change changes ≡ true
    by_option None is some = absurd some
    by_option (Some v) is some = some_of_change changes i v is

pub none_marked : (changes : Changes) → ((k : ℕ) → change_at changes k ≡ None) → is_some_change changes ≡ true → ⊥
none_marked [] none e = let no : false ≡ true = e in absurd cc
none_marked (c ∷ cs) none e =
    no_some (change_at (c ∷ cs) c.0) c.1 (ap (λ b. cond b (Some c.1) (change_at cs c.0)) (same_key c.0 c.0 refl)) (none c.0)
