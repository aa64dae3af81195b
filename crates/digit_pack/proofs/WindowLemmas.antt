-- A digit of one width, read from three digits of another.
use Rattle.std.proofs.Common.{◌≡◌, ℕ, ◌+◌, ◌-◌, ◌*◌, ◌/◌, ◌%◌, ◌^◌, ◌<◌, ◌≤◌, arith, ap, ◌∙◌, sym, List, length, lit<, mul-zero, mul-one, add-zero, mul-le-mul_left, mul-le-mul_right, ⊎_elim}
use Rattle.std.proofs.lemmas.Nat.{shr-shr, field_of, pow_pos, pow-add, mul-add-lt}
use Rattle.std.proofs.lemmas.Bool.{cases_lt}
use Rattle.std.proofs.lemmas.List.{get_or_past}
use Rattle.std.proofs.Math.Nat.{div-eq_of_lt, pow-le-pow_right, zero-mod}
use Rattle.std.specs.Prelude.{slice_index, All}
use Rattle.matrix_u32.specs.Sum.{sum_below}
use Rattle.matrix_u32.proofs.Sums.{sum_below_more}
use Rattle.lane_kernels.specs.Digit.{digit}
use Rattle.digit_pack.specs.Digits.{number_of}
use Rattle.digit_pack.specs.Windows.{window}
use Rattle.digit_pack.proofs.DigitSums.{sum_of_digits, digit_of_sum, number_below, mod_twice}

-- past the last digit a number has the digit 0, as the list has
digit-past : (w n x t : ℕ) → x < 2 ^ (w * n) → n ≤ t → digit w x t ≡ 0
unfolding digit
digit-past w n x t small past =
    let room : 2 ^ (w * n) ≤ 2 ^ (w * t) = pow-le-pow_right (lit< tt) (mul-le-mul_left w past) in
    ap (λ y. y % 2 ^ w) (div-eq_of_lt (omega arith)) ∙ zero-mod (2 ^ w)

pub digit-number : (w : ℕ) (digits : List ℕ) (t : ℕ) → All (λ d. d < 2 ^ w) digits → digit w (number_of w digits) t ≡ slice_index digits t
unfolding number_of
digit-number w digits t small =
    ⊎_elim
    (λ l. digit_of_sum w (length digits) (λ k. slice_index digits k) (λ k m. small k 0 m) t l)
    (λ g. digit-past w (length digits) _ t (number_below w (length digits) (λ k. slice_index digits k) (λ k m. small k 0 m)) g ∙ sym (get_or_past digits t 0 g))
    (cases_lt t (length digits))

digit-shifted : (w x first u : ℕ) → digit w (x / 2 ^ (w * first)) u ≡ digit w x (first + u)
unfolding digit
digit-shifted w x first u =
    let e : w * first + w * u ≡ w * (first + u) = omega arith in
    ap (λ y. y % 2 ^ w) (shr-shr x (w * first) (w * u)) ∙ ap (λ k. x / 2 ^ k % 2 ^ w) e

-- three digits of a number are the number from there on, up to their places
window_is : (w : ℕ) (digits : List ℕ) (first : ℕ) → All (λ d. d < 2 ^ w) digits → window w digits first ≡ number_of w digits / 2 ^ (w * first) % 2 ^ (w * 3)
unfolding window sum_below
window_is w digits first small =
    let x : ℕ = number_of w digits / 2 ^ (w * first) in
    let d : (u : ℕ) → digit w x u ≡ slice_index digits (first + u) = λ u. digit-shifted w (number_of w digits) first u
    ∙ digit-number w digits (first + u) small in
    let zero_is : digit w x 0 * 2 ^ (w * 0) ≡ slice_index digits first = ap (λ k. digit w x 0 * 2 ^ k) (mul-zero w)
    ∙ omega (arith, d 0, ap (slice_index digits) (add-zero first)) in
    let one_is : digit w x 1 * 2 ^ (w * 1) ≡ slice_index digits (first + 1) * 2 ^ w = ap (λ k. digit w x 1 * 2 ^ k) (mul-one w) ∙ ap (λ y. y * 2 ^ w) (d 1) in
    let two_is : digit w x 2 * 2 ^ (w * 2) ≡ slice_index digits (first + 2) * 2 ^ (w * 2) = ap (λ y. y * 2 ^ (w * 2)) (d 2) in
    omega (arith, zero_is, one_is, two_is, sum_of_digits w 3 x)

-- digit k of v bits begins `over` bits into the digit `first` of w bits
pub digit_from_window : (v w : ℕ) (digits : List ℕ) (k first over : ℕ) → All (λ d. d < 2 ^ w) digits → v * k ≡ w * first + over → v + over ≤ 3 * w →
    digit v (number_of w digits) k ≡ window w digits first / 2 ^ over % 2 ^ v
unfolding digit
digit_from_window v w digits k first over small at fits =
    let n : ℕ = number_of w digits in
    let x : ℕ = n / 2 ^ (w * first) in
    let wide : w * 3 ≡ (w * 3 - (v + over)) + (v + over) = omega arith in
    let low : x % 2 ^ (w * 3) % 2 ^ (v + over) ≡ x % 2 ^ (v + over) = ap (λ k. x % 2 ^ k % 2 ^ (v + over)) wide ∙ mod_twice x (w * 3 - (v + over)) (v + over) in
    ap (λ k. n / 2 ^ k % 2 ^ v) at ∙ ap (λ y. y % 2 ^ v) (sym (shr-shr n (w * first) over))
    ∙ sym (field_of x v over) ∙ ap (λ y. y / 2 ^ over) (sym low) ∙ field_of (x % 2 ^ (w * 3)) v over
    ∙ ap (λ y. y / 2 ^ over % 2 ^ v) (sym (window_is w digits first small))

-- a digit, shifted below bit 30
pub shifted_small : (w d k : ℕ) → d < 2 ^ w → w + k ≤ 30 → d * 2 ^ k < 2 ^ 30
shifted_small w d k h l =
    let step : d * 2 ^ k + 0 < 2 ^ k * 2 ^ w = mul-add-lt d (2 ^ k) 0 (2 ^ w) h (pow_pos k) in
    let p : 2 ^ (w + k) ≡ 2 ^ w * 2 ^ k = pow-add 2 w k in
    let room : 2 ^ (w + k) ≤ 2 ^ 30 = pow-le-pow_right (lit< tt) l in
    omega (arith, step, p, room)

-- the number that n + 1 digits write ends before bit w n + over exactly when its top digit ends
-- before bit over
pub top_decides : (w : ℕ) (digits : List ℕ) (n over : ℕ) → All (λ d. d < 2 ^ w) digits → length digits ≡ n + 1 →
    ((slice_index digits n < 2 ^ over → number_of w digits < 2 ^ (w * n + over)) × (2 ^ over ≤ slice_index digits n → 2 ^ (w * n + over) ≤ number_of w digits))
unfolding number_of
top_decides w digits n over small e =
    let f : ℕ → ℕ = λ k. slice_index digits k in
    let low : sum_below n (λ t. f t * 2 ^ (w * t)) < 2 ^ (w * n) = number_below w n f (λ k m. small k 0 (omega arith)) in
    let p : 2 ^ (w * n + over) ≡ 2 ^ (w * n) * 2 ^ over = pow-add 2 (w * n) over in
    let all : sum_below (length digits) (λ t. f t * 2 ^ (w * t)) ≡ sum_below n (λ t. f t * 2 ^ (w * t)) + f n * 2 ^ (w * n) =
    ap (λ k. sum_below k (λ t. f t * 2 ^ (w * t))) e ∙ sum_below_more n (λ t. f t * 2 ^ (w * t)) in (
      (λ h.
          let step : f n * 2 ^ (w * n) + sum_below n (λ t. f t * 2 ^ (w * t)) < 2 ^ (w * n) * 2 ^ over = mul-add-lt (f n) (2 ^ (w * n)) _ (2 ^ over) h low in
          omega (arith, step, p, all)),
      (λ h.
          let step : 2 ^ over * 2 ^ (w * n) ≤ f n * 2 ^ (w * n) = mul-le-mul_right (2 ^ (w * n)) h in
          omega (arith, step, p, all)),
    )
