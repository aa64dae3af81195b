-- The list that words are guessed to follow.
use Rattle.std.proofs.Common.{◌≡◌, ◌⊎◌, ℕ, zero, suc, ◌+◌, ◌-◌, ◌*◌, ◌/◌, ◌%◌, ◌^◌, ◌<◌, ◌≤◌, arith, ap, ◌∙◌, sym, refl, subst, inl, inr, List, length, min, lit<}
use Rattle.std.proofs.Math.Nat.{add-mul-mod_self_right}
use Rattle.std.proofs.lemmas.Nat.{div-add-mod', mul-mod_second, trailing_le, mod_below}
use Rattle.std.proofs.lemmas.Nat.Bits.{bit_at-trailing_zeros}
use Rattle.std.proofs.lemmas.Bool.{cases_eq, cases_lt, lt-ltb, le-ltb}
use Rattle.std.specs.Prelude.{slice_index, nat_lt, if◌then◌else◌, true, false}
use Rattle.std.specs.Int.{trailing_zeros, w32}
use Rattle.matrix_u32.specs.Sum.{sum_below, list_of}
use Rattle.matrix_u32.specs.Matrix.{WordMatrix, entry}
use Rattle.matrix_u32.proofs.Sums.{sum_same}
use Rattle.matrix_u32.proofs.Products.{at-list_of, length-list_of}
use Rattle.digit_pack.specs.Digits.{number_of, recomposed_at}
use Rattle.hint_update.specs.Words.{word_change, IsFewestZeros, IsLeastPower, HasNone, AreFirstChanges, IsGuess}

-- ---- an inverse, by Newton's steps
product_error : (p e a b c k s : ℕ) → s ≡ k * k → p ≡ a * k + 1 → e + p ≡ b * (s * c) + 2 → p * e + a * a * s ≡ 1 + p * b * c * s
product_error p e a b c k s es ep ee =
    let all : p * (e + p) ≡ p * (b * (s * c) + 2) = ap (λ x. p * x) ee in
    let left : p * (e + p) ≡ p * e + p * p = grind arith in
    let right : p * (b * (s * c) + 2) ≡ p * b * c * s + 2 * p = grind arith in
    let square : (a * k + 1) * (a * k + 1) ≡ a * a * (k * k) + 2 * (a * k) + 1 = grind arith in
    let squares : p * p ≡ (a * k + 1) * (a * k + 1) = ap (λ x. x * x) ep in
    let places : a * a * (k * k) ≡ a * a * s = ap (λ x. a * a * x) (sym es) in
    omega (arith, all, left, right, square, squares, places, ep)

-- what is left of a remainder
mod_of_mod : (y s c : ℕ) → y % (s * c) % s ≡ y % s
mod_of_mod y s c =
    let parts : y / (s * c) * (s * c) + y % (s * c) ≡ y = div-add-mod' y (s * c) in
    let turned : y / (s * c) * (s * c) + y % (s * c) ≡ y % (s * c) + y / (s * c) * c * s = grind arith in
    sym (add-mul-mod_self_right (y % (s * c)) (y / (s * c) * c) s) ∙ ap (λ n. n % s) (sym turned ∙ parts)

-- a step doubles the bits that are right
inverse_doubles : (x y e k s c m : ℕ) → s ≡ k * k → m ≡ s * c → 1 % s ≡ 1 → x * y % k ≡ 1 → (e + x * y) % m ≡ 2 → x * (y * e % m) % s ≡ 1
inverse_doubles x y e k s c m es em high right error =
    let p : ℕ = x * y in
    let ep : p ≡ p / k * k + 1 = sym (div-add-mod' p k) ∙ ap (λ r. p / k * k + r) right in
    let ee : e + p ≡ (e + p) / m * (s * c) + 2 = sym (div-add-mod' (e + p) m) ∙ ap (λ r. (e + p) / m * m + r) error ∙ ap (λ n. (e + p) / m * n + 2) em in
    let both = product_error p e (p / k) ((e + p) / m) c k s es ep ee in
    let plain : p * e % s ≡ 1 =
    sym (add-mul-mod_self_right (p * e) (p / k * (p / k)) s) ∙ ap (λ n. n % s) both ∙ add-mul-mod_self_right 1 (p * ((e + p) / m) * c) s ∙ high in
    let turned : x * (y * e) ≡ p * e = grind arith in
    sym (mod_of_mod (x * (y * e % m)) s c) ∙ ap (λ n. x * (y * e % m) % n % s) (sym em)
    ∙ ap (λ n. n % s) (mul-mod_second x (y * e) m) ∙ ap (λ n. x * (y * e) % n % s) em
    ∙ mod_of_mod (x * (y * e)) s c ∙ ap (λ n. n % s) turned ∙ plain

-- the difference that a step multiplies by
step_error : (p : ℕ) → ((2 + (2 ^ 32 - p % 2 ^ 32)) % 2 ^ 32 + p) % 2 ^ 32 ≡ 2
step_error p = omega arith

-- each of the four steps
pub inverse_step : (i x y : ℕ) → i < 4 → x * y % 2 ^ (2 ^ (i + 1)) ≡ 1 →
    x * (y * ((2 + (2 ^ 32 - x * y % 2 ^ 32)) % 2 ^ 32) % 2 ^ 32) % 2 ^ (2 ^ (i + 1 + 1)) ≡ 1
inverse_step zero x y l right = inverse_doubles x y ((2 + (2 ^ 32 - x * y % 2 ^ 32)) % 2 ^ 32) (2 ^ 2) (2 ^ 4) (2 ^ 28) (2 ^ 32) refl refl refl right (step_error (x * y))
inverse_step (suc zero) x y l right = inverse_doubles x y ((2 + (2 ^ 32 - x * y % 2 ^ 32)) % 2 ^ 32) (2 ^ 4) (2 ^ 8) (2 ^ 24) (2 ^ 32) refl refl refl right (step_error (x * y))
inverse_step (suc (suc zero)) x y l right = inverse_doubles x y ((2 + (2 ^ 32 - x * y % 2 ^ 32)) % 2 ^ 32) (2 ^ 8) (2 ^ 16) (2 ^ 16) (2 ^ 32) refl refl refl right (step_error (x * y))
inverse_step (suc (suc (suc zero))) x y l right = inverse_doubles x y ((2 + (2 ^ 32 - x * y % 2 ^ 32)) % 2 ^ 32) (2 ^ 16) (2 ^ 32) 1 (2 ^ 32) refl refl refl right (step_error (x * y))
inverse_step (suc (suc (suc (suc i)))) x y l right = absurd (omega (arith, l))

-- an odd number is its own inverse modulo 4
pub own_inverse : (x : ℕ) → x % 2 ≡ 1 → x * x % 4 ≡ 1
own_inverse x odd =
    let half : x ≡ x / 2 * 2 + 1 = sym (div-add-mod' x 2) ∙ ap (λ r. x / 2 * 2 + r) odd in
    let h : ℕ = x / 2 in
    let square : (h * 2 + 1) * (h * 2 + 1) ≡ 1 + (h * h + h) * 4 = grind arith in
    ap (λ n. n * n % 4) half ∙ ap (λ n. n % 4) square ∙ add-mul-mod_self_right 1 (h * h + h) 4

-- ---- words and their changes
pub number_of_list : (w n : ℕ) (f : ℕ → ℕ) → sum_below n (λ t. f t * 2 ^ (w * t)) ≡ number_of w (list_of n f)
unfolding number_of
number_of_list w n f =
    sym (rw (length-list_of n f) (sum_same n _ _ (λ t l. ap (λ k. k * 2 ^ (w * t)) (at-list_of n f t l))))

pub change_listed : (w : ℕ) (server hint : WordMatrix) (listed : List ℕ) (word k : ℕ) → k < length listed →
    (entry hint (slice_index listed k) word + (2 ^ 32 - recomposed_at w server word (slice_index listed k))) % 2 ^ 32
    ≡ word_change w server hint listed word k
change_listed w server hint listed word k l = rw (lt-ltb k (length listed) l) refl

pub change_past : (w : ℕ) (server hint : WordMatrix) (listed : List ℕ) (word k : ℕ) → length listed ≤ k → 0 ≡ word_change w server hint listed word k
change_past w server hint listed word k l = rw (le-ltb k (length listed) l) refl

-- ---- the fewest zero bits
fewest_met : (n : ℕ) (f : ℕ → ℕ) (least here : ℕ) → trailing_zeros w32 (f n) ≡ here →
    (least ≡ 32) ⊎ ((k : ℕ) × (k < n) × (trailing_zeros w32 (f k) ≡ least)) →
    (min least here ≡ 32) ⊎ ((k : ℕ) × (k < n + 1) × (trailing_zeros w32 (f k) ≡ min least here))
fewest_met n f least here e met =
    let split : (here < least) ⊎ (least ≤ here) = cases_lt here least in
    elim split [
      | inl less ↦ inr (n, omega arith, e ∙ omega (arith, less))
      | inr more ↦ elim met [
        | inl none ↦ inl (omega (arith, more, none, subst (λ h. h ≤ 32) e (trailing_le 32 (f n))))
        | inr (k, l, is) ↦ inr (k, omega (arith, l), is ∙ omega (arith, more))
      ]
    ]

pub fewest_more : (n : ℕ) (f : ℕ → ℕ) (least : ℕ) → IsFewestZeros n f least → IsFewestZeros (n + 1) f (min least (trailing_zeros w32 (f n)))
fewest_more n f least h = record {
  each = λ k l. elim (cases_eq k n) [
    | inl e ↦ subst (λ j. min least (trailing_zeros w32 (f n)) ≤ trailing_zeros w32 (f j)) (sym e) (omega arith)
    | inr apart ↦ omega (arith, h.each k (omega (arith, l, apart)))
  ];
  met = fewest_met n f least (trailing_zeros w32 (f n)) refl h.met;
}

power_few : (words count : ℕ) (change : ℕ → ℕ → ℕ) (least : ℕ) → IsLeastPower words count change least → least ≤ 32
power_few words count change least h = elim h.met [
  | inl e ↦ omega (arith, e)
  | inr (j, k, l, m, ends) ↦ subst (λ n. n ≤ 32) ends (trailing_le 32 (change j k))
]

few_few : (count : ℕ) (changes : List ℕ) (fewest : ℕ) → IsFewestZeros count (λ k. slice_index changes k) fewest → fewest ≤ 32
few_few count changes fewest h = elim h.met [
  | inl e ↦ omega (arith, e)
  | inr (k, l, ends) ↦ subst (λ n. n ≤ 32) ends (trailing_le 32 (slice_index changes k))
]

pub power_more : (words count : ℕ) (change : ℕ → ℕ → ℕ) (changes : List ℕ) (least fewest : ℕ) → IsLeastPower words count change least →
    ((k : ℕ) → k < count → slice_index changes k ≡ change words k) → IsFewestZeros count (λ k. slice_index changes k) fewest →
    IsLeastPower (words + 1) count change (min least fewest)
power_more words count change changes least fewest h is few = record {
  each = λ j k l m. elim (cases_eq j words) [
    | inl e ↦
        let low : fewest ≤ trailing_zeros w32 (change j k) =
        subst (λ x. fewest ≤ trailing_zeros w32 x) (is k m ∙ ap (λ j. change j k) (sym e)) (few.each k m) in
        omega (arith, low)
    | inr apart ↦ omega (arith, h.each j k (omega (arith, l, apart)) m)
  ];
  met =
      let split : (fewest < least) ⊎ (least ≤ fewest) = cases_lt fewest least in
      elim split [
        | inl less ↦ elim few.met [
          | inl none ↦ inl (omega (arith, less, none, power_few words count change least h))
          | inr (k, l, ends) ↦ inr (words, k, omega arith, l, ap (trailing_zeros w32) (sym (is k l)) ∙ ends ∙ omega (arith, less))
        ]
        | inr more ↦ elim h.met [
          | inl none ↦ inl (omega (arith, more, none, few_few count changes fewest few))
          | inr (j, k, l, m, ends) ↦ inr (j, k, omega (arith, l), m, ends ∙ omega (arith, more))
        ]
      ];
}

-- a word has a change that ends with the fewest zero bits
pub some_ends : (words count : ℕ) (change : ℕ → ℕ → ℕ) (least : ℕ) → 0 < words → 0 < count → IsLeastPower words count change least →
    ((j : ℕ) → j < words → HasNone count (change j) least) → ⊥
some_ends words count change least some many h none = elim h.met [
  | inl e ↦
      none 0 some 0 many
      (let low = h.each 0 0 some many in
      let high = trailing_le 32 (change 0 0) in
      omega (arith, e, low, high))
  | inr (j, k, l, m, ends) ↦ none j l k m ends
]

-- what the power of two leaves of the number that it is of is odd
pub odd_left : (x least : ℕ) → 0 < x → x < 2 ^ 32 → trailing_zeros w32 x ≡ least → x / 2 ^ least % 2 ≡ 1
odd_left x least some high e = subst (λ n. x / 2 ^ n % 2 ≡ 1) e (bit_at-trailing_zeros w32 x some high).1

pub change_small : (w : ℕ) (server hint : WordMatrix) (listed : List ℕ) (word k : ℕ) → word_change w server hint listed word k < 2 ^ 32
change_small w server hint listed word k =
    let x : ℕ = entry hint (slice_index listed k) word + (2 ^ 32 - recomposed_at w server word (slice_index listed k)) in
    elim (nat_lt k (length listed)) as (λ b. (if b then x % 2 ^ 32 else 0) < 2 ^ 32) [
      | true ↦ mod_below x (2 ^ 32) (lit< tt)
      | false ↦ lit< tt
    ]

-- what is made of the first changes
pub guess_is : (words count : ℕ) (change : ℕ → ℕ → ℕ) (least inverse : ℕ) (changes common : List ℕ) (pivot : ℕ) →
    ((word k : ℕ) → change word k < 2 ^ 32) → IsLeastPower words count change least → AreFirstChanges words count change least changes pivot →
    (slice_index changes pivot / 2 ^ least % 2 ≡ 1 → slice_index changes pivot / 2 ^ least * inverse % 2 ^ 32 ≡ 1) →
    ((k : ℕ) → k < count → slice_index common k ≡ slice_index changes k / 2 ^ least * inverse % 2 ^ 32) →
    IsGuess words count change common pivot
guess_is words count change least inverse changes common pivot small power first inverted divided =
    let is : slice_index changes pivot ≡ change first.word pivot = first.each pivot first.ending.inside in
    record {
      least = least;
      word = first.word;
      inverse = inverse;
      power = power;
      first = first.first;
      ending = first.ending;
      one = λ some.
          ap (λ n. n / 2 ^ least * inverse % 2 ^ 32) (sym is)
          ∙ inverted (ap (λ n. n / 2 ^ least % 2) is ∙ odd_left (change first.word pivot) least some (small first.word pivot) first.ending.ends);
      divided = λ k l. divided k l ∙ ap (λ n. n / 2 ^ least * inverse % 2 ^ 32) (first.each k l);
    }
