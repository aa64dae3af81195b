-- Records that come into their slots one after another.
use Rattle.std.proofs.Common.{◌≡◌, ◌∙◌, ◌<◌, ◌+◌, ℕ, suc, List, [], ◌∷◌, length, map, slice_set, refl, ap, arith, inl, inr}
use Rattle.std.proofs.lemmas.Bool.{cases_lt}
use Rattle.std.proofs.lemmas.List.{get_or-set_same, get_or-set_other}
use Rattle.digit_pack.specs.Layout.{record_at}

-- one more is in its slot
pub one_more : (slots : List (List ℕ)) (slot : ℕ → List ℕ) (i : ℕ) → i < length slots →
    ((k : ℕ) → k < i → record_at slots k ≡ slot k) →
    (k : ℕ) → k < i + 1 → record_at (slice_set slots i (slot i)) k ≡ slot k
one_more slots slot i inside before k lt = elim (cases_lt k i) [
  | inl less ↦ get_or-set_other slots i k (slot i) [] (omega (arith, less)) ∙ before k less
  | inr ge ↦ let e : k ≡ i = omega (arith, lt, ge) in rw e (get_or-set_same slots i (slot i) [] inside)
]

-- all are in their slots
pub all_there : (xs ys : List (List ℕ)) (f : List ℕ → List ℕ) → length ys ≡ length xs →
    ((k : ℕ) → k < length xs → record_at ys k ≡ f (record_at xs k)) → ys ≡ map f xs
all_there [] [] f n h = refl
all_there [] (y ∷ ys) f n h = absurd (omega (arith, n))
all_there (x ∷ xs) [] f n h = absurd (omega (arith, n))
all_there (x ∷ xs) (y ∷ ys) f n h =
    rw (h 0 (omega arith)) (ap (λ (zs : List (List ℕ)). f x ∷ zs) (all_there xs ys f (omega (arith, n)) (λ k lt. h (suc k) (omega (arith, lt)))))
