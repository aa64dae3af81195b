-- Changes that are made, and changes that go into the records.
use Rattle.std.proofs.Common.{◌≡◌, ◌≢◌, ℕ, ◌<◌, arith, ap, ◌∙◌, sym, refl, subst, inl, inr, List, [], ◌∷◌, length, get_or-set_same, get_or-set_other, true, false, cond}
use Rattle.std.proofs.lemmas.Bool.{cases_eq}
use Rattle.std.proofs.lemmas.Bool.Decides.{nat_tests}
use Rattle.std.proofs.lemmas.List.FromFn.{fill_by_all}
use Rattle.std.proofs.lemmas.List.{length-set}
use Rattle.std.proofs.Math.ListN.{set}
use Rattle.std.specs.Prelude.{Option, Some, None, MatchOption}
use Rattle.std.specs.declared.vec.Vec.{Vec}
use Rattle.std.specs.declared.alloc.Global.{Global}
use Rattle.std.specs.BTreeMap.{BTreeMap, Updates, is_at}
use Rattle.std.specs.Ordering.{nat_cmp}
use Rattle.matrix_u32.specs.Sum.{list_of}
use Rattle.matrix_u32.proofs.Products.{same-list_of}
use Rattle.digit_pack.specs.Layout.{record_at}
use Rattle.pir_schemes.specs.Plans.{fits}
use Rattle.version_store.specs.Editions.{Records}
use Rattle.version_store.specs.Drafts.{Changes, change_at, bytes_or, draft_of, is_some_change, FitRecords}
use Rattle.digit_pack.proofs.RecordLemmas.{set-list_of}

pub same_key : (k i : ℕ) → k ≡ i → is_at (nat_cmp k) i ≡ true
same_key k i e = grind (arith, nat_tests)

other_key : (k i : ℕ) → i ≢ k → is_at (nat_cmp k) i ≡ false
other_key k i d = grind (arith, nat_tests)

-- what a map has after a change of its key k
pub updated_here : (m n : BTreeMap ℕ (Vec ℕ Global)) (k : ℕ) (w : Option (Vec ℕ Global)) → Updates nat_cmp m n k w → change_at n.entries k ≡ w
updated_here m n k w u = u.0 k ∙ ap (λ b. cond b w (change_at m.entries k)) (same_key k k refl)

pub updated_elsewhere : (m n : BTreeMap ℕ (Vec ℕ Global)) (k i : ℕ) (w : Option (Vec ℕ Global)) → Updates nat_cmp m n k w → i ≢ k →
    change_at n.entries i ≡ change_at m.entries i
updated_elsewhere m n k i w u d = u.0 i ∙ ap (λ b. cond b w (change_at m.entries i)) (other_key k i d)

-- a change that goes into the records leaves the draft
pub draft-popped : (records : List (List ℕ)) (m n : BTreeMap ℕ (Vec ℕ Global)) (k : ℕ) (v : Vec ℕ Global) → change_at m.entries k ≡ Some v →
    Updates nat_cmp m n k None →
    k < length records → draft_of (set records k v.items) n.entries ≡ draft_of records m.entries
draft-popped records m n k v is u inside =
    ap (λ c. list_of c (λ i. bytes_or (change_at n.entries i) (record_at (set records k v.items) i))) (length-set records k v.items)
    ∙ same-list_of (length records) _ (λ i. bytes_or (change_at m.entries i) (record_at records i)) (λ i h. elim (cases_eq i k) [
      | inl same ↦
          ap (λ i. bytes_or (change_at n.entries i) (record_at (set records k v.items) i)) same
          ∙ ap (λ c. bytes_or c (record_at (set records k v.items) k)) (updated_here m n k None u)
          ∙ get_or-set_same records k v.items [] inside
          ∙ ap (λ c. bytes_or c (record_at records k)) (sym is)
          ∙ ap (λ i. bytes_or (change_at m.entries i) (record_at records i)) (sym same)
      | inr apart ↦
          ap (λ c. bytes_or c (record_at (set records k v.items) i)) (updated_elsewhere m n k i None u apart)
          ∙ ap (bytes_or (change_at m.entries i)) (get_or-set_other records k i v.items [] apart)
    ])

-- the records with waiting changes are as they were, after another has gone into the records
pub still-waiting : (first old : List (List ℕ)) (m n : BTreeMap ℕ (Vec ℕ Global)) (i : ℕ) (bytes : List ℕ) → Updates nat_cmp m n i None →
    ((k : ℕ) (v : Vec ℕ Global) → change_at m.entries k ≡ Some v → record_at old k ≡ record_at first k) →
    (k : ℕ) (v : Vec ℕ Global) → change_at n.entries k ≡ Some v → record_at (set old i bytes) k ≡ record_at first k
still-waiting first old m n i bytes u waiting k v is = elim (cases_eq k i) [
  | inl same ↦
      let gone : change_at n.entries k ≡ None = ap (change_at n.entries) same ∙ updated_here m n i None u in
      let bad : Some v ≡ None = sym is ∙ gone in absurd cc
  | inr apart ↦
      get_or-set_other old i k bytes [] apart ∙ waiting k v (sym (updated_elsewhere m n i k None u apart) ∙ is)
]

-- an edit replaces one record of the draft
pub draft-inserted : (records : List (List ℕ)) (m n : BTreeMap ℕ (Vec ℕ Global)) (k : ℕ) (v : Vec ℕ Global) → Updates nat_cmp m n k (Some v) →
    k < length records → draft_of records n.entries ≡ set (draft_of records m.entries) k v.items
draft-inserted records m n k v u inside =
    set-list_of (length records) k (λ i. bytes_or (change_at m.entries i) (record_at records i))
    (λ i. bytes_or (change_at n.entries i) (record_at records i)) v.items [] inside
    (ap (λ c. bytes_or c (record_at records k)) (updated_here m n k (Some v) u))
    (λ i h apart. ap (λ c. bytes_or c (record_at records i)) (updated_elsewhere m n k i (Some v) u apart))

-- with no changes the draft is the records
pub draft-none : (records : List (List ℕ)) → draft_of records [] ≡ records
draft-none records = sym (fill_by_all (record_at records) records (length records) [] refl (λ k h. refl))

-- changes fit after one is made or taken away
pub fit-updated : (e : Records) (m n : BTreeMap ℕ (Vec ℕ Global)) (k : ℕ) (w : Option (Vec ℕ Global)) → Updates nat_cmp m n k w →
    MatchOption w (Unit {0}) (λ v. (k < length e.records) × (fits e.plan v.items ≡ true)) → FitRecords e m.entries → FitRecords e n.entries
fit-updated e m n k w u new old i =
    let fit : ℕ → Option (Vec ℕ Global) → Type 0 = λ i o. MatchOption o (Unit {0}) (λ v. (i < length e.records) × (fits e.plan v.items ≡ true)) in
    elim (cases_eq i k) [
      | inl same ↦ subst (λ i. fit i (change_at n.entries i)) (sym same) (subst (fit k) (sym (updated_here m n k w u)) new)
      | inr apart ↦ subst (fit i) (sym (updated_elsewhere m n k i w u apart)) (old i)
    ]

pub some_of_change : (changes : Changes) (k : ℕ) (v : Vec ℕ Global) → change_at changes k ≡ Some v → is_some_change changes ≡ true
some_of_change [] k v e = let no : change_at [] k ≡ Some v = e in cc
some_of_change (c ∷ cs) k v e = refl

-- a map is not empty after an insertion
pub some_after_insert : (m n : BTreeMap ℕ (Vec ℕ Global)) (k : ℕ) (v : Vec ℕ Global) → Updates nat_cmp m n k (Some v) → is_some_change n.entries ≡ true
some_after_insert m n k v u = some_of_change n.entries k v (updated_here m n k (Some v) u)
