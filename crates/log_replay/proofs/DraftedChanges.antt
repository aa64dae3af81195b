-- Changes of a draft, from the first place on.
use Rattle.std.proofs.Common.{◌≡◌, ℕ, zero, suc, ◌+◌, ◌-◌, ◌*◌, ◌/◌, ◌%◌, ◌<◌, ◌≤◌, ◌^◌, arith, ap, ◌∙◌, sym, refl, inl, inr, List, [], ◌∷◌, ◌++◌, length, take, drop, true, cond, append_assoc, append-nil}
use Rattle.std.specs.Prelude.{◌&&◌, slice_set}
use Rattle.std.proofs.Math.Nat.{mod-lt}
use Rattle.std.proofs.lemmas.Nat.{mul-le, div-add-mod'}
use Rattle.std.proofs.lemmas.Bool.{cases_lt, and_from, and_parts, or_left, or_right, lt-ltb, le-ltb, eq-eqb}
use Rattle.std.proofs.lemmas.List.{length-append, length-take-le, length-drop, set-append_right, drop_more, take_all, drop_all}
use Rattle.digit_pack.specs.Layout.{Shape, IsLayout, digit_cols, record_at, is_layout}
use Rattle.digit_pack.proofs.Layouts.{layout_means}
use Rattle.digit_pack.proofs.Limits.{few_cols, few_groups}
use Rattle.pir_schemes.specs.declared.plan.Plan.{Plan}
use Rattle.pir_schemes.specs.Plans.{fits, shape_at}
use Rattle.publication_log.specs.Publications.{Placed}
use Rattle.version_store.specs.Histories.{StoreState}
use Rattle.version_store.specs.DraftChanges.{IsUnchangedAt, IsNextChange, HasNoChange}
use Rattle.log_replay.specs.Replays.{record_changed, records_replayed, count_after, has_place, are_changes_of, IsDraftMade}
use Rattle.log_replay.proofs.ChangeLemmas.{length_changed}

-- ---- one more change

records_push : (rs : List (List ℕ)) (cs : List Placed) (c : Placed) → records_replayed rs (cs ++ c ∷ []) ≡ record_changed (records_replayed rs cs) c
records_push rs [] c = refl
records_push rs (d ∷ cs) c = records_push (record_changed rs d) cs c

changes_push : (p : Plan) (rs : List (List ℕ)) (cs : List Placed) (c : Placed) → are_changes_of p (length rs) cs ≡ true →
    (has_place p (length (records_replayed rs cs)) c.place && fits p c.bytes) ≡ true → are_changes_of p (length rs) (cs ++ c ∷ []) ≡ true
changes_push p rs [] c each last = and_from _ _ last refl
changes_push p rs (d ∷ cs) c each last =
    let parts = and_parts _ _ each in
    let count : count_after (length rs) d ≡ length (record_changed rs d) = sym (length_changed rs d) in
    and_from _ _ parts.0
    (ap (λ (n : ℕ). are_changes_of p n (cs ++ c ∷ [])) count
    ∙ changes_push p (record_changed rs d) cs c (ap (λ (n : ℕ). are_changes_of p n cs) (sym count) ∙ parts.1) last)

-- ---- the records of a draft up to a place, and those of the version from there on

pub mixed : StoreState → ℕ → List (List ℕ)
mixed s low = take low s.draft ++ drop low s.edition.records

take_one : (xs : List (List ℕ)) (k : ℕ) → k < length xs → take (k + 1) xs ≡ take k xs ++ record_at xs k ∷ []
take_one (x ∷ xs) zero lt = refl
take_one (x ∷ xs) (suc k) lt =
    let e : suc k + 1 ≡ suc (k + 1) = omega arith in
    ap (λ (n : ℕ). take n (x ∷ xs)) e ∙ ap (λ (ys : List (List ℕ)). x ∷ ys) (take_one xs k (omega (arith, lt)))
take_one [] k lt = absurd (let no : ⊥ = omega (arith, lt) in no)

length_mixed : (s : StoreState) (i : ℕ) → i ≤ length s.draft → length (mixed s i) ≡ i + (length s.edition.records - i)
unfolding mixed
length_mixed s i le =
    length-append (take i s.draft) (drop i s.edition.records)
    ∙ ap (λ (n : ℕ). n + length (drop i s.edition.records)) (length-take-le i s.draft le)
    ∙ ap (λ (n : ℕ). i + n) (length-drop i s.edition.records)

one_unchanged : (s : StoreState) (k : ℕ) → k < length s.draft → IsUnchangedAt s k → mixed s k ≡ mixed s (k + 1)
unfolding mixed
one_unchanged s k lt same =
    let rs : List (List ℕ) = s.edition.records in
    ap (λ (ys : List (List ℕ)). take k s.draft ++ ys) (drop_more rs k [] same.0)
    ∙ ap (λ (y : List ℕ). take k s.draft ++ y ∷ drop (k + 1) rs) (sym same.1)
    ∙ sym (append_assoc (take k s.draft) (record_at s.draft k ∷ []) (drop (k + 1) rs))
    ∙ ap (λ (ys : List (List ℕ)). ys ++ drop (k + 1) rs) (sym (take_one s.draft k lt))

some_unchanged : (s : StoreState) (low n : ℕ) → low + n ≤ length s.draft → ((k : ℕ) → low ≤ k → k < low + n → IsUnchangedAt s k) → mixed s low ≡ mixed s (low + n)
some_unchanged s low zero le same = ap (mixed s) (let e : low ≡ low + zero = omega arith in e)
some_unchanged s low (suc n) le same =
    some_unchanged s low n (omega (arith, le)) (λ k a b. same k a (omega (arith, b)))
    ∙ one_unchanged s (low + n) (omega (arith, le)) (same (low + n) (omega arith) (omega arith))
    ∙ ap (mixed s) (let e : low + n + 1 ≡ low + suc n = omega arith in e)

up_to : (s : StoreState) (low i : ℕ) → low ≤ i → i ≤ length s.draft → ((k : ℕ) → low ≤ k → k < i → IsUnchangedAt s k) → mixed s low ≡ mixed s i
up_to s low i le inside same =
    let e : low + (i - low) ≡ i = omega (arith, le) in
    some_unchanged s low (i - low) (omega (arith, inside, le)) (λ k a b. same k a (omega (arith, b, le))) ∙ ap (mixed s) e

-- ---- a change of the draft

abbrev placed : ℕ → List ℕ → Placed
placed place bytes = record { place = place; bytes = bytes }

replaced : (s : StoreState) (i : ℕ) → i < length s.draft → i < length s.edition.records →
    slice_set (mixed s i) i (record_at s.draft i) ≡ mixed s (i + 1)
unfolding mixed
replaced s i inside old =
    let rs : List (List ℕ) = s.edition.records in
    let new : List ℕ = record_at s.draft i in
    let none : i - i ≡ 0 = omega arith in
    set-append_right (take i s.draft) (drop i rs) i i new (length-take-le i s.draft (omega (arith, inside))) (omega arith)
    ∙ ap (λ (n : ℕ). take i s.draft ++ slice_set (drop i rs) n new) none
    ∙ ap (λ (ys : List (List ℕ)). take i s.draft ++ slice_set ys 0 new) (drop_more rs i [] old)
    ∙ sym (append_assoc (take i s.draft) (new ∷ []) (drop (i + 1) rs))
    ∙ ap (λ (ys : List (List ℕ)). ys ++ drop (i + 1) rs) (sym (take_one s.draft i inside))

appended : (s : StoreState) (i : ℕ) → i < length s.draft → length s.edition.records ≤ i →
    mixed s i ++ record_at s.draft i ∷ [] ≡ mixed s (i + 1)
unfolding mixed
appended s i inside new =
    let rs : List (List ℕ) = s.edition.records in
    ap (λ (ys : List (List ℕ)). (take i s.draft ++ ys) ++ record_at s.draft i ∷ []) (drop_all i rs new)
    ∙ ap (λ (ys : List (List ℕ)). ys ++ record_at s.draft i ∷ []) (append-nil (take i s.draft))
    ∙ sym (take_one s.draft i inside)
    ∙ sym (append-nil (take (i + 1) s.draft))
    ∙ ap (λ (ys : List (List ℕ)). take (i + 1) s.draft ++ ys) (sym (drop_all (i + 1) rs (omega (arith, new))))

change_made : (s : StoreState) (i : ℕ) → i < length s.draft → record_changed (mixed s i) (placed i (record_at s.draft i)) ≡ mixed s (i + 1)
change_made s i inside =
    let long = length_mixed s i (omega (arith, inside)) in
    elim (cases_lt i (length s.edition.records)) [
      | inl old ↦
          ap (λ b. cond b (slice_set (mixed s i) i (record_at s.draft i)) (mixed s i ++ record_at s.draft i ∷ [])) (lt-ltb i (length (mixed s i)) (omega (arith, long, old)))
          ∙ replaced s i inside old
      | inr new ↦
          ap (λ b. cond b (slice_set (mixed s i) i (record_at s.draft i)) (mixed s i ++ record_at s.draft i ∷ [])) (le-ltb i (length (mixed s i)) (omega (arith, long, new)))
          ∙ appended s i inside new
    ]

place_had : (s : StoreState) (i : ℕ) → i < length s.draft → is_layout (shape_at s.edition.plan (i + 1)) ≡ true → has_place s.edition.plan (length (mixed s i)) i ≡ true
place_had s i inside room =
    let long = length_mixed s i (omega (arith, inside)) in
    elim (cases_lt i (length s.edition.records)) [
      | inl old ↦ or_left _ _ (lt-ltb i (length (mixed s i)) (omega (arith, long, old)))
      | inr new ↦
          let next : i ≡ length (mixed s i) = omega (arith, long, new) in
          or_right _ _ (and_from _ _ (eq-eqb i (length (mixed s i)) next) (ap (λ (n : ℕ). is_layout (shape_at s.edition.plan (n + 1))) (sym next) ∙ room))
    ]

few_records : (l : Shape) → IsLayout l → l.count ≤ 1073741824
few_records l ok =
    let n : ℕ = l.count + l.groups - 1 in
    let whole : n / l.groups * l.groups + n % l.groups ≡ n = div-add-mod' n l.groups in
    let part : n % l.groups < l.groups = mod-lt n (omega (arith, ok.groups.0)) in
    let few : digit_cols l * l.groups ≤ 32768 * 32768 = mul-le (digit_cols l) l.groups 32768 32768 (few_cols l ok) (few_groups l ok) in
    omega (arith, whole, part, few, ok.groups.0)

-- a place has four bytes
pub place_fits : (p : Plan) (i : ℕ) → is_layout (shape_at p (i + 1)) ≡ true → i < 2 ^ 32
place_fits p i room =
    let few = few_records (shape_at p (i + 1)) (layout_means (shape_at p (i + 1)) room) in
    omega (arith, few)

-- ---- all changes up to a place

pub record IsMadeUpTo (s : StoreState) (low : ℕ) (cs : List Placed) : Type 0 where
  pub inside : low ≤ length s.draft
  pub some : length cs ≡ 0 → low ≡ 0
  pub each : are_changes_of s.edition.plan (length s.edition.records) cs ≡ true
  pub made : records_replayed s.edition.records cs ≡ mixed s low

pub none_made : (s : StoreState) → IsMadeUpTo s 0 []
unfolding mixed
none_made s = record { inside = omega arith; some = λ e. refl; each = refl; made = refl }

pub one_made : (s : StoreState) (low i : ℕ) (bytes : List ℕ) (cs : List Placed) → IsMadeUpTo s low cs → IsNextChange s low i bytes →
    IsMadeUpTo s (i + 1) (cs ++ record { place = i; bytes = bytes } ∷ [])
one_made s low i bytes cs made next =
    let c : Placed = placed i bytes in
    let same : records_replayed s.edition.records cs ≡ mixed s i = made.made ∙ up_to s low i next.at (omega (arith, next.inside)) next.between in
    let place : has_place s.edition.plan (length (records_replayed s.edition.records cs)) i ≡ true =
    ap (λ (rs : List (List ℕ)). has_place s.edition.plan (length rs) i) same ∙ place_had s i next.inside next.layout in
    record {
      inside = omega (arith, next.inside);
      some = λ e. absurd (let no : ⊥ = omega (arith, e, length-append cs (c ∷ [])) in no);
      each = changes_push s.edition.plan s.edition.records cs c made.each (and_from _ _ place next.fit);
      made = records_push s.edition.records cs c
          ∙ ap (λ (rs : List (List ℕ)). record_changed rs c) same
          ∙ ap (λ (b : List ℕ). record_changed (mixed s i) (placed i b)) next.bytes_are
          ∙ change_made s i next.inside;
    }

pub all_made : (s : StoreState) (low : ℕ) (cs : List Placed) → IsMadeUpTo s low cs → HasNoChange s low → (s.marked ≡ true → 0 < low) → IsDraftMade s cs
unfolding mixed
all_made s low cs made none marked =
    let rs : List (List ℕ) = s.edition.records in
    let n : ℕ = length s.draft in record {
      some = λ m. let le : 0 < low = marked m in elim (cases_lt 0 (length cs)) [
        | inl some ↦ some
        | inr few ↦ absurd (let bad : ⊥ = omega (arith, le, made.some (omega (arith, few))) in bad)
      ];
      each = made.each;
      made = made.made
          ∙ up_to s low n made.inside (omega arith) none.after
          ∙ ap (λ (ys : List (List ℕ)). ys ++ drop n rs) (take_all n s.draft (omega arith))
          ∙ ap (λ (ys : List (List ℕ)). s.draft ++ ys) (drop_all n rs none.count)
          ∙ append-nil s.draft;
    }
