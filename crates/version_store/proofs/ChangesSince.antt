-- What differs between an earlier version and the current one.
use Rattle.std.proofs.Common.{◌≡◌, ◌∙◌, ℕ, ◌+◌, ◌-◌, ◌*◌, ◌/◌, ◌%◌, ◌^◌, ◌<◌, ◌≤◌, ◌↔◌, true, false, cond, Option, Some, None, IfOk, IfSome, IsNone, List, length, refl, sym, ap, arith, inl, inr}
use Rattle.std.specs.Prelude.{nat_le, option_map, Result, Ok, Err}
use Rattle.std.specs.declared.vec.Vec.{Vec}
use Rattle.std.specs.declared.alloc.Global.{Global}
use Rattle.std.specs.declared.alloc.AllocError.{AllocError}
use Rattle.std.proofs.Math.Nat.{mod-lt}
use Rattle.std.proofs.lemmas.Nat.{mul-le, div-add-mod'}
use Rattle.std.proofs.lemmas.Bool.{and_from, cond-true, cond-false, le-leb, lt-leb, cases_lt}
use Rattle.digit_pack.specs.Layout.{Shape, IsLayout, digit_cols}
use Rattle.digit_pack.specs.Slots.{is_form}
use Rattle.digit_pack.proofs.Limits.{few_cols, few_groups}
use Rattle.hint_changes.specs.Changes.{changes_between}
use Rattle.pir_schemes.specs.declared.plan.Plan.{Plan}
use Rattle.pir_schemes.specs.Plans.{slots}
use Rattle.record_log.specs.OldRecords.{OldRecord, entries_bytes}
use Rattle.record_log.specs.Logs.{entries_since, newest}
use Rattle.version_store.specs.Histories.{StoreState, History, StandsFor, changes_since, current_version, entries_between, reaches_olds}
use Rattle.version_store.specs.OldRecords.{kept_olds}
use Rattle.version_store.proofs.OldsKept.{back_to}

-- bytes that are so many at most
abbrev pub at_most : ℕ → List ℕ → Option (List ℕ)
at_most most bytes = cond (nat_le (length bytes) most) (Some bytes) None

-- what a log returns
pub made_is : (made : Option (Vec ℕ Global)) (entries : List ℕ) (most : ℕ) → IfSome made (λ v. v.items ≡ entries) →
    IsNone made ↔ (most < length entries) → option_map (λ v. v.items) made ≡ at_most most entries
made_is None entries most are none =
    sym (cond-false (nat_le (length entries) most) (Some entries) None (lt-leb (length entries) most (none.0 refl)))
made_is (Some v) entries most are none = elim (cases_lt most (length entries)) [
  | inl over ↦ let no : true ≡ false = none.1 over in cc
  | inr within ↦ ap Some are ∙ sym (cond-true (nat_le (length entries) most) (Some entries) None (le-leb (length entries) most within))
]

pub result_is : (r : Result (Option (Vec ℕ Global)) AllocError) (entries : List ℕ) (most : ℕ) → IfOk r (λ made. IfSome made (λ v. v.items ≡ entries)) →
    IfOk r (λ made. IsNone made ↔ (most < length entries)) → IfOk r (λ made. option_map (λ v. v.items) made ≡ at_most most entries)
result_is (Ok made) entries most are none = made_is made entries most are none
result_is (Err e) entries most are none = tt

few_made : (made : Option (Vec ℕ Global)) (entries : List ℕ) (most : ℕ) → IfSome made (λ v. v.items ≡ entries) →
    IsNone made ↔ (most < length entries) → IfSome made (λ v. length v.items ≤ most)
few_made None entries most are none = tt
few_made (Some v) entries most are none = elim (cases_lt most (length entries)) [
  | inl over ↦ let no : true ≡ false = none.1 over in cc
  | inr within ↦ omega (arith, ap length are, within)
]

pub few_answered : (r : Result (Option (Vec ℕ Global)) AllocError) (entries : List ℕ) (most : ℕ) → IfOk r (λ made. IfSome made (λ v. v.items ≡ entries)) →
    IfOk r (λ made. IsNone made ↔ (most < length entries)) → IfOk r (λ made. IfSome made (λ v. length v.items ≤ most))
few_answered (Ok made) entries most are none = few_made made entries most are none
few_answered (Err e) entries most are none = tt

-- the history of a store gives the same
pub stands_so : (s : StoreState) (h : History) (since n most : ℕ) → is_form s.edition.plan.form s.edition.plan.record_len ≡ true → StandsFor s h →
    since + n ≡ s.version → n ≤ length s.olds →
    at_most most (entries_since (newest n s.olds) (slots s.edition.plan s.edition.records)) ≡ changes_since s.edition.plan h since most
unfolding changes_since
stands_so s h since n most form stands is few =
    let p : Plan = s.edition.plan in
    let kept : List (List OldRecord) = kept_olds p h.current h.past in
    let many : length kept ≡ length s.olds = ap length stands.olds in
    let now : ℕ = current_version h in
    let at : since + n ≡ now = is ∙ sym stands.version in
    let reaches : reaches_olds now (length kept) since ≡ true =
    and_from (nat_le since now) (nat_le (now - since) (length kept)) (le-leb since now (omega (arith, at)))
    (le-leb (now - since) (length kept) (omega (arith, at, many, few))) in
    ap (λ (lists : List (List OldRecord)). at_most most (entries_since (newest n lists) (slots p s.edition.records))) (sym stands.olds)
    ∙ ap (λ (rs : List (List ℕ)). at_most most (entries_since (newest n kept) (slots p rs))) (sym stands.current)
    ∙ ap (λ (rs : List (List ℕ)). at_most most (entries_bytes (changes_between rs (slots p h.current))))
    (back_to p h since n form stands.growing.1 at (omega (arith, many, few)))
    ∙ sym (cond-true (reaches_olds now (length kept) since) (at_most most (entries_between p h since)) None reaches)

pub none_so : (s : StoreState) (h : History) (since most : ℕ) → StandsFor s h → reaches_olds s.version (length s.olds) since ≡ false →
    None ≡ changes_since s.edition.plan h since most
unfolding changes_since
none_so s h since most stands not =
    let p : Plan = s.edition.plan in
    let kept : List (List OldRecord) = kept_olds p h.current h.past in
    let same : reaches_olds (current_version h) (length kept) since ≡ reaches_olds s.version (length s.olds) since =
    ap (λ v. reaches_olds v (length kept) since) stands.version ∙ ap (λ (lists : List (List OldRecord)). reaches_olds s.version (length lists) since) stands.olds in
    sym (cond-false (reaches_olds (current_version h) (length kept) since) (at_most most (entries_between p h since)) None (same ∙ not))

-- a layout has fewer than 2 ^ 32 records
pub few_records : (l : Shape) → IsLayout l → l.count < 2 ^ 32
few_records l ok =
    let n : ℕ = l.count + l.groups - 1 in
    let whole : n / l.groups * l.groups + n % l.groups ≡ n = div-add-mod' n l.groups in
    let part : n % l.groups < l.groups = mod-lt n (omega (arith, ok.groups.0)) in
    let few : digit_cols l * l.groups ≤ 32768 * 32768 = mul-le (digit_cols l) l.groups 32768 32768 (few_cols l ok) (few_groups l ok) in
    omega (arith, whole, part, few, ok.groups.0)
